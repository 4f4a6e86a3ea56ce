-- Two writes in a row are one.
use Rattle.std.proofs.Common.{ℕ, ◌≡◌, ◌+◌, ◌-◌, List, ◌++◌, length, take, drop, Option, Some, None, refl, ap, sym, ◌∙◌, append_assoc, take-add, arith, length-drop}
use Rattle.std.proofs.lemmas.List.{take_all}
use Rattle.ltm_io.specs.Sink.{appended}

whole_tail : (bytes : List ℕ) (at : ℕ) → take (length bytes - at) (drop at bytes) ≡ drop at bytes
whole_tail bytes at = take_all (length bytes - at) (drop at bytes) (omega (arith, length-drop at bytes))

pub two_writes : (told : Option (List ℕ)) (bytes : List ℕ) (at n : ℕ) → appended (take n (take (length bytes - at) (drop at bytes))) (appended (take at bytes) told) ≡ appended (take (at + n) bytes) told
two_writes None bytes at n = refl
two_writes (Some w) bytes at n = rw (whole_tail bytes at) (ap Some (append_assoc w (take at bytes) (take n (drop at bytes)) ∙ ap (λ x. w ++ x) (sym (take-add at n bytes))))
