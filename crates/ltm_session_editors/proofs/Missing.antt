-- What is told of a folder.
use Rattle.std.proofs.Common.{ℕ, ◌≡◌, ◌⊎◌, ◌+◌, ◌<◌, ◌≤◌, inl, inr, sym, subst, ◌∙◌, List, [], ◌∷◌, ◌++◌, length, drop, get_or, Option, Some, None, Ok, Err}
use Rattle.std.specs.Prelude.{IfSome, IfErr, Result}
use Rattle.ltm_io.specs.declared.doc.Doc.{Doc}
use Rattle.ltm_io.specs.Folder.{Files}
use Rattle.ltm_session_editors.specs.declared.fault.EditsFault.{EditsFault}
use Rattle.ltm_session_editors.specs.declared.fault.EditsFault.TheVariants as fault
use Rattle.ltm_session_editors.specs.Each.{each_from}
use Rattle.ltm_session_editors.specs.Files.{sized, text_at}
use Rattle.ltm_session_editors.specs.Faults.{Agrees, IfMissing}
use Rattle.ltm_session_editors.proofs.Each.{joined, in_place, one_more, first_fault, all_done}

module _ {T : Type 0} where
  -- where something is told, this follows from that
  pub told_so : (told : Option T) (P Q : T → Type 0) → ((t : T) → P t → Q t) → IfSome told P → IfSome told Q
  told_so None P Q so p = tt
  told_so (Some t) P Q so p = so t p

  pub told_both : (told : Option T) (P Q R : T → Type 0) → ((t : T) → P t → Q t → R t) → IfSome told P → IfSome told Q → IfSome told R
  told_both None P Q R so p q = tt
  told_both (Some t) P Q R so p q = so t p q

module _ {A B : Type 0} where
  -- a fault of a part is the fault of the whole
  pub agrees_whole : (part : Result A EditsFault) (whole : Result B EditsFault) (e : EditsFault) → ((f : EditsFault) → part ≡ Err f → whole ≡ Err f) → Agrees part e → Agrees whole e
  agrees_whole part whole (fault.Missing editor) so says = tt
  agrees_whole part whole (fault.TooLong editor) so says = so (fault.TooLong editor) says
  agrees_whole part whole fault.TooMany so says = so fault.TooMany says
  agrees_whole part whole (fault.BadLine editor line cause) so says = so (fault.BadLine editor line cause) says
  agrees_whole part whole fault.NoMemory so says = tt

-- where a file was not given, this follows from that
pub missing_so : (P Q : Type 0) (e : EditsFault) → (P → Q) → IfMissing P e → IfMissing Q e
missing_so P Q (fault.Missing editor) so p = so p
missing_so P Q (fault.TooLong editor) so p = tt
missing_so P Q fault.TooMany so p = tt
missing_so P Q (fault.BadLine editor line cause) so p = tt
missing_so P Q fault.NoMemory so p = tt

module _ {A : Type 0} where
  pub none_missing : (P : Type 0) (r : Result A EditsFault) → IfErr r (IfMissing ⊥) → IfErr r (IfMissing P)
  none_missing P (Ok a) given = tt
  none_missing P (Err e) given = missing_so ⊥ P e (λ none. absurd none) given

-- ---- the files of editors, one more at a time
module _ (told now : Option Files) (docs : List Doc) (i n : ℕ) (d : Doc) (front : List (List ℕ)) (all : Files → Result (List (List ℕ)) EditsFault) where
  pub one_fetched : (text : List ℕ) → now ≡ told → i < length docs → IfSome told (λ files. joined front (each_from (text_at files) n (drop i docs)) ≡ all files) → IfSome now (λ files. sized n (files (get_or docs i d)) ≡ Ok text)
      → IfSome told (λ files. joined (front ++ text ∷ []) (each_from (text_at files) (n + 1) (drop (i + 1) docs)) ≡ all files)
  one_fetched text keeps within given found =
      told_both told (λ files. joined front (each_from (text_at files) n (drop i docs)) ≡ all files) (λ files. sized n (files (get_or docs i d)) ≡ Ok text) (λ files. joined (front ++ text ∷ []) (each_from (text_at files) (n + 1) (drop (i + 1) docs)) ≡ all files)
      (λ files so is. one_more (text_at files) front n docs i (get_or docs i d) text within (in_place docs i d within) is ∙ so) given (subst (λ (o : Option Files). IfSome o (λ files. sized n (files (get_or docs i d)) ≡ Ok text)) keeps found)

  pub fault_fetched : (e : EditsFault) → now ≡ told → i < length docs → IfSome told (λ files. joined front (each_from (text_at files) n (drop i docs)) ≡ all files) → IfSome now (λ files. Agrees (sized n (files (get_or docs i d))) e)
      → IfSome told (λ files. Agrees (all files) e)
  fault_fetched e keeps within given found =
      told_both told (λ files. joined front (each_from (text_at files) n (drop i docs)) ≡ all files) (λ files. Agrees (sized n (files (get_or docs i d))) e) (λ files. Agrees (all files) e)
      (λ files so says. agrees_whole (sized n (files (get_or docs i d))) (all files) e (λ f is. sym so ∙ first_fault (text_at files) front n docs i (get_or docs i d) f within (in_place docs i d within) is) says) given
      (subst (λ (o : Option Files). IfSome o (λ files. Agrees (sized n (files (get_or docs i d))) e)) keeps found)

  pub all_fetched : length docs ≤ i → IfSome told (λ files. joined front (each_from (text_at files) n (drop i docs)) ≡ all files) → IfSome told (λ files. all files ≡ Ok front)
  all_fetched past given = told_so told (λ files. joined front (each_from (text_at files) n (drop i docs)) ≡ all files) (λ files. all files ≡ Ok front) (λ files so. sym so ∙ all_done (text_at files) front n docs i past) given
