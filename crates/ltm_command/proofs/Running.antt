-- Runs of commands: the files that stay, and what a text or a refusal leaves.
use Rattle.std.proofs.Common.{ℕ, ◌≡◌, ◌⊎◌, inl, inr, refl, ap, sym, subst, ◌∙◌, arith, List, [], length, Option, None, Some, Bool, true, false}
use Rattle.std.specs.Prelude.{IfSome}
use Rattle.std.proofs.lemmas.List.{append-nil}
use Rattle.std.proofs.Math.Seq.{take-length}
use Rattle.ltm_io.specs.declared.doc.Doc.{Doc}
use Rattle.ltm_io.specs.Folder.{Files}
use Rattle.ltm_io.specs.Faults.{Rose}
use Rattle.ltm_io.specs.Sink.{appended, AppendsFront}
use Rattle.ltm_command.specs.declared.status.Status.{Status}
use Rattle.ltm_command.specs.declared.status.Status.TheVariants as ending
use Rattle.ltm_command.specs.declared.words.Command.{Command}
use Rattle.ltm_command.specs.Answers.{may_fetch, fetches}
use Rattle.ltm_command.specs.Program.{IsWhole, Fetches, FileFailed}
use Rattle.ltm_command.specs.Run.{Outside, LeavesInput, TouchesOnly, WritesFront, IsRun}

-- ---- statuses
-- one of a whole text, or of the outside, or of memory
pub sorted : (status : Status) → (status ≡ ending.FolderFault → ⊥) → (status ≡ ending.WriteFault → ⊥) → IsWhole status ⊎ (status ≡ ending.NoMemory)
sorted ending.FolderFault folder write = absurd (folder refl)
sorted ending.WriteFault folder write = absurd (write refl)
sorted ending.NoMemory folder write = inr refl
sorted status folder write = inl tt

is_failed : (status : Status) → (status ≡ ending.WriteFault) ⊎ (status ≡ ending.WriteFault → ⊥)
is_failed ending.WriteFault = inl refl
is_failed status = inr (λ is. cc)

-- a text was written, or its writing failed
abbrev pub Ends : Status → Status → Type 0
Ends well status = (status ≡ well) ⊎ ((status ≡ ending.WriteFault) ⊎ (status ≡ ending.NoMemory))

other_end : (well status other : Status) → Ends well status → (well ≡ other → ⊥) → (other ≡ ending.WriteFault → ⊥) → (other ≡ ending.NoMemory → ⊥) → status ≡ other → ⊥
other_end well status other (inl same) differs write memory is = differs (sym same ∙ is)
other_end well status other (inr (inl failed)) differs write memory is = write (sym is ∙ failed)
other_end well status other (inr (inr none)) differs write memory is = memory (sym is ∙ none)

-- ---- files
kept_in : (P : Type 0) (t : Bool) → (t ≡ true → ⊥) → (t ≡ false → P) → P
kept_in P true none out = absurd (none refl)
kept_in P false none out = out refl

-- a file stays of which it is not told both that it may be fetched and that it is asked for
pub kept : (P : Type 0) (told : Option Files) (first : Bool) (second : Files → Bool) → ((first ≡ true) × IfSome told (λ files. second files ≡ true) → ⊥) → (first ≡ false → P)
    → IfSome told (λ files. second files ≡ false → P) → P
kept P told false second none out unasked = out refl
kept P None true second none out unasked = absurd (none (refl, tt))
kept P (Some files) true second none out unasked = kept_in P (second files) (λ is. none (refl, is)) unasked

at_file : (P : Doc → Type 0) (told : Option Files) (second : Files → Doc → Bool) (d : Doc) → IfSome told (λ files. (e : Doc) → second files e ≡ false → P e) → IfSome told (λ files. second files d ≡ false → P d)
at_file P None second d stay = tt
at_file P (Some files) second d stay = stay d

pub stays : (before now : Doc → ℕ) (c : Command) (told : Option Files) → ((d : Doc) → may_fetch c d ≡ false → now d ≡ before d)
    → IfSome told (λ files. (d : Doc) → fetches c files d ≡ false → now d ≡ before d) → (d : Doc) → (Fetches c told d → ⊥) → now d ≡ before d
stays before now c told others unasked d out =
    kept (now d ≡ before d) told (may_fetch c d) (λ files. fetches c files d) out (others d) (at_file (λ e. now e ≡ before e) told (fetches c) d unasked)

pub missed : (c : Command) (told : Option Files) (before now : Doc → ℕ) → FileFailed c told before now → (d : Doc) × Fetches c told d × Rose (before d) (now d)
missed c told before now (d, may, asked, rose) = (d, (may, asked), rose)

-- ---- fronts
nothing_more : (written : Option (List ℕ)) → written ≡ appended [] written
nothing_more None = refl
nothing_more (Some w) = ap Some (sym (append-nil w))

no_front : (old new : Option (List ℕ)) (t : List ℕ) → new ≡ old → AppendsFront old new t
no_front old new t same = (0, omega arith, same ∙ nothing_more old)

whole_front : (old new : Option (List ℕ)) (t : List ℕ) → new ≡ appended t old → AppendsFront old new t
whole_front old new t is = (length t, omega arith, is ∙ ap (λ (x : List ℕ). appended x old) (sym (take-length t)))

no_well : (status : Status) → (status ≡ ending.WriteFault) ⊎ (status ≡ ending.NoMemory) → status ≡ ending.Ok → ⊥
no_well status (inl failed) ok = let wrong : ending.WriteFault ≡ ending.Ok = sym failed ∙ ok in cc
no_well status (inr none) ok = let wrong : ending.NoMemory ≡ ending.Ok = sym none ∙ ok in cc

front_refused : (IsText : Status → List ℕ → Type 0) (Told : Type 0) (status due : Status) (t : List ℕ) (old new : Option (List ℕ)) → (Told → IsText due t) → (Told → due ≡ ending.FolderFault → ⊥)
    → (status ≡ ending.WriteFault → Told) → (new ≡ old) ⊎ (Told × AppendsFront old new t) → WritesFront IsText status old new
front_refused IsText Told status due t old new says given failed (inr (told, front)) = inr (due, t, given told, says told, front)
front_refused IsText Told status due t old new says given failed (inl same) = elim (is_failed status) [
  | inl is ↦ inr (due, t, given (failed is), says (failed is), no_front old new t same)
  | inr other ↦ inl (same, other)
]

-- ---- runs
module _ (IsText : Status → List ℕ → Type 0) (MayFetch : Doc → Type 0) where
  -- memory was not found before anything was written
  pub run_stopped : (Reads : Type 0) (b a : Outside) → TouchesOnly MayFetch b a → LeavesInput b a → a.written ≡ b.written → IsRun IsText MayFetch Reads ending.NoMemory b a
  run_stopped Reads b a touches unread same = record {
    touches = touches;
    reads = (λ blind. unread, λ reads ok. absurd (cc), λ is. unread);
    faults = (λ is. absurd (cc), λ is. absurd (cc), λ is. absurd (cc));
    whole = λ whole. absurd whole;
    front = inl (same, λ is. cc);
  }

  -- a whole text was to be written
  pub run_written : (status well : Status) (t : List ℕ) (b a : Outside) → TouchesOnly MayFetch b a → LeavesInput b a → IsWhole well → (well ≡ ending.ReadFault → ⊥) → IsText well t
      → Ends well status → (status ≡ well → a.written ≡ appended t b.written) → AppendsFront b.written a.written t → (status ≡ ending.WriteFault → Rose b.write_faults a.write_faults)
      → IsRun IsText MayFetch ⊥ status b a
  run_written status well t b a touches unread whole read says ends wrote front rose = record {
    touches = touches;
    reads = (λ blind. unread, λ reads ok. absurd reads, λ is. unread);
    faults = (
      λ is. absurd (other_end well status ending.FolderFault ends given (λ x. cc) (λ x. cc) is),
      λ is. absurd (other_end well status ending.ReadFault ends read (λ x. cc) (λ x. cc) is),
      rose,
    );
    whole = λ is. all ends is;
    front = inr (well, t, given, says, front);
  }
    where
      given : well ≡ ending.FolderFault → ⊥
      given is = subst IsWhole is whole

      all : Ends well status → IsWhole status → (u : List ℕ) × IsText status u × (a.written ≡ appended u b.written)
      all (inl same) is = (t, subst (λ x. IsText x t) (sym same) says, wrote same)
      all (inr (inl failed)) is = absurd (subst IsWhole failed is)
      all (inr (inr none)) is = absurd (subst IsWhole none is)

  -- a whole text was written
  pub run_well : (t : List ℕ) (b a : Outside) → TouchesOnly MayFetch b a → LeavesInput b a → IsText ending.Ok t → a.written ≡ appended t b.written → IsRun IsText MayFetch ⊥ ending.Ok b a
  run_well t b a touches unread says wrote =
      run_written ending.Ok ending.Ok t b a touches unread tt (λ is. cc) says (inl refl) (λ ok. wrote) (whole_front b.written a.written t wrote) (λ is. absurd (cc))

  -- a front of a text was written, and then writing failed
  pub run_cut : (status : Status) (t : List ℕ) (b a : Outside) → TouchesOnly MayFetch b a → LeavesInput b a → IsText ending.Ok t
      → (status ≡ ending.WriteFault) ⊎ (status ≡ ending.NoMemory) → AppendsFront b.written a.written t → (status ≡ ending.WriteFault → Rose b.write_faults a.write_faults)
      → IsRun IsText MayFetch ⊥ status b a
  run_cut status t b a touches unread says ends front rose =
      run_written status ending.Ok t b a touches unread tt (λ is. cc) says (inr ends) (λ ok. absurd (no_well status ends ok)) front rose

  -- the line of a refusal was to be written, where one tells of it; or a file was missing
  pub run_refused : (Reads Told Missing : Type 0) (status due : Status) (t : List ℕ) (b a : Outside) → TouchesOnly MayFetch b a → LeavesInput b a
      → (Told → IsText due t) → (Told → due ≡ ending.FolderFault → ⊥) → (due ≡ ending.Ok → ⊥) → (due ≡ ending.ReadFault → ⊥)
      → (Missing → (d : Doc) × MayFetch d × Rose (b.faults d) (a.faults d))
      → (IsWhole status → Told × (status ≡ due) × (a.written ≡ appended t b.written)) → (a.written ≡ b.written) ⊎ (Told × AppendsFront b.written a.written t)
      → (status ≡ ending.FolderFault → Missing × (a.written ≡ b.written)) → (status ≡ ending.WriteFault → Told × Rose b.write_faults a.write_faults)
      → IsRun IsText MayFetch Reads status b a
  run_refused Reads Told Missing status due t b a touches unread says given ok read gone whole front folder failed = record {
    touches = touches;
    reads = (λ blind. unread, λ reads is. absurd (ok (due_is ending.Ok tt is)), λ is. unread);
    faults = (
      λ is. let h = folder is in (gone h.0, h.1),
      λ is. absurd (read (due_is ending.ReadFault tt is)),
      λ is. (failed is).1,
    );
    whole = λ is. let h = whole is in (t, subst (λ x. IsText x t) (sym h.1) (says h.0), h.2);
    front = front_refused IsText Told status due t b.written a.written says given (λ is. (failed is).0) front;
  }
    where
      due_is : (other : Status) → IsWhole other → status ≡ other → due ≡ other
      due_is other all is = sym (whole (subst IsWhole (sym is) all)).1 ∙ is
