-- What comes of the files, once some were fetched.
use Rattle.std.proofs.Common.{◌≡◌, ℕ, ◌≤◌, ◌||◌, List, Bool, true, false, cond, Option, Some, None, Ok, Err, IfSome, refl, sym, ap, ◌∙◌, subst, arith}
use Rattle.std.specs.Prelude.{IsSomeAnd, nat_le, length}
use Rattle.std.proofs.lemmas.Bool.{false≢true}
use Rattle.ltm_io.specs.declared.doc.Doc.{Doc}
use Rattle.std.proofs.Math.Bool.{or-true}
use Rattle.ltm_io.specs.declared.doc.Doc.TheVariants as doc
use Rattle.ltm_io.specs.Faults.{Rose}
use Rattle.ltm_io.specs.Folder.{Files}
use Rattle.ltm_scenario.specs.Build.{◌>>=◌}
use Rattle.ltm_records.specs.Left.{records_of}
use Rattle.ltm_casefile.specs.declared.faults.CaseFault.{CaseFault}
use Rattle.ltm_casefile.specs.declared.faults.File.{File}
use Rattle.ltm_casefile.specs.declared.faults.File.TheVariants as file
use Rattle.ltm_casefile.specs.declared.faults.CaseFault.TheVariants.{Folder, TooLong, Bad, NoHistory, NoMemory}
use Rattle.ltm_casefile.specs.declared.setup.Asked.{Asked}
use Rattle.ltm_casefile.specs.declared.setup.Opened.{Opened}
use Rattle.ltm_casefile.specs.Case.{CaseTexts, texts_of, limit_texts_of, parts_of, opened_of, asked_by, each_asks, is_asked, asks_for}
use Rattle.ltm_casefile.specs.Setup.{setup_of}
use Rattle.ltm_casefile.specs.Roads.{has_matrix, roads_ask}
use Rattle.ltm_casefile.specs.Matrix.{is_matrix}
use Rattle.ltm_casefile.specs.Folder.{doc_of, sized, text_within}
use Rattle.ltm_casefile.specs.Faults.{Agrees, NotGiven, HasRisen, WasAsked}

-- what holds of the file that was not given may be weakened
pub not_given : (P Q : Doc → Type 0) (e : CaseFault) → ((d : Doc) → P d → Q d) → NotGiven P e → NotGiven Q e
not_given P Q (Folder f) more holds = elim (doc_of f) as (λ o. IsSomeAnd o P → IsSomeAnd o Q) [ None ↦ λ no. no | Some d ↦ λ h. more d h ] holds
not_given P Q (TooLong f) more holds = tt
not_given P Q (Bad f row cause) more holds = tt
not_given P Q NoHistory more holds = tt
not_given P Q NoMemory more holds = tt

-- what rose since a later moment rose since an earlier one
pub risen_since : (before mid now : Doc → ℕ) (e : CaseFault) → ((d : Doc) → before d ≤ mid d) → HasRisen mid now e → HasRisen before now e
risen_since before mid now e later rose = not_given (λ d. Rose (mid d) (now d)) (λ d. Rose (before d) (now d)) e (λ d h. omega (arith, later d)) rose

-- the setup that was opened is the one of the files
pub is_opened : (files : Files) (texts : CaseTexts) (opened : Opened) → texts_of files ≡ Ok texts → setup_of (records_of texts.roads.setup) ≡ Ok opened → opened_of files ≡ Ok opened
is_opened files texts opened there is = ap (λ r. r >>= λ t. setup_of (records_of t.roads.setup)) there ∙ is

-- what the limits make of the parts
parts_from : (files : Files) (texts : CaseTexts) (opened : Opened) → texts_of files ≡ Ok texts → setup_of (records_of texts.roads.setup) ≡ Ok opened → parts_of files ≡ (limit_texts_of files opened.asked >>= λ limits. Ok (record { scenario = opened.scenario; routes = opened.asked.routes; texts = texts; limits = limits }))
unfolding parts_of
parts_from files texts opened there is = rw (there, is) refl

-- a fault of the limits is the fault of the parts
limits_fault : (files : Files) (texts : CaseTexts) (opened : Opened) (e : CaseFault) → texts_of files ≡ Ok texts → setup_of (records_of texts.roads.setup) ≡ Ok opened → Agrees (limit_texts_of files opened.asked) e → Agrees (parts_of files) e
limits_fault files texts opened (Folder f) there is said = tt
limits_fault files texts opened (TooLong f) there is said = parts_from files texts opened there is ∙ ap (λ r. r >>= λ limits. Ok (record { scenario = opened.scenario; routes = opened.asked.routes; texts = texts; limits = limits })) said
limits_fault files texts opened (Bad f row cause) there is said = parts_from files texts opened there is ∙ ap (λ r. r >>= λ limits. Ok (record { scenario = opened.scenario; routes = opened.asked.routes; texts = texts; limits = limits })) said
limits_fault files texts opened NoHistory there is said = parts_from files texts opened there is ∙ ap (λ r. r >>= λ limits. Ok (record { scenario = opened.scenario; routes = opened.asked.routes; texts = texts; limits = limits })) said
limits_fault files texts opened NoMemory there is said = tt

-- the files that the setup asks for are those that are asked for
same_asked : (files : Files) (texts : CaseTexts) (opened : Opened) → texts_of files ≡ Ok texts → setup_of (records_of texts.roads.setup) ≡ Ok opened → (d : Doc) → asks_for files d ≡ (each_asks files d || is_asked opened.asked d)
same_asked files texts opened there is d = ap (λ r. each_asks files d || is_asked (asked_by r) d) (is_opened files texts opened there is)

limits_asked : (files : Files) (texts : CaseTexts) (opened : Opened) (e : CaseFault) → texts_of files ≡ Ok texts → setup_of (records_of texts.roads.setup) ≡ Ok opened → WasAsked (is_asked opened.asked) e → WasAsked (asks_for files) e
limits_asked files texts opened e there is asked =
    not_given (λ d. is_asked opened.asked d ≡ true) (λ d. asks_for files d ≡ true) e
    (λ d h. same_asked files texts opened there is d ∙ ap (λ b. each_asks files d || b) h ∙ or-true (each_asks files d))
    asked

left_false : (a b : Bool) → (a || b) ≡ false → a ≡ false
left_false true b h = cc
left_false false b h = refl

right_false : (a b : Bool) → (a || b) ≡ false → b ≡ false
right_false true b h = cc
right_false false b h = h

-- no other file was asked for
others_stay : (files : Files) (texts : CaseTexts) (opened : Opened) (before mid now : Doc → ℕ) → texts_of files ≡ Ok texts → setup_of (records_of texts.roads.setup) ≡ Ok opened → ((d : Doc) → each_asks files d ≡ false → mid d ≡ before d) → ((d : Doc) → is_asked opened.asked d ≡ false → now d ≡ mid d) → (d : Doc) → asks_for files d ≡ false → now d ≡ before d
others_stay files texts opened before mid now there is first then d none =
    let neither : (each_asks files d || is_asked opened.asked d) ≡ false = sym (same_asked files texts opened there is d) ∙ none in
    then d (right_false (each_asks files d) (is_asked opened.asked d) neither) ∙ first d (left_false (each_asks files d) (is_asked opened.asked d) neither)

-- ---- the roads
-- a file that is read has its bytes
within_there : (most : ℕ) (f : File) (o : Option (List ℕ)) (bytes : List ℕ) → sized most f o ≡ Ok bytes → o ≡ Some bytes
within_there most f None bytes is = cc
within_there most f (Some found) bytes is = elim (nat_le (length found) most) as (λ b. cond b (Ok found) (Err (TooLong f)) ≡ Ok bytes → Some found ≡ Some bytes) [ true ↦ λ e. cc | false ↦ λ e. cc ] is

-- a profile is asked for exactly if the demand that is read is a matrix
asks_profile : (files : Files) (most : ℕ) (demand : List ℕ) → text_within most files file.Demand ≡ Ok demand → roads_ask files doc.Profile ≡ is_matrix demand
asks_profile files most demand is = ap has_matrix (within_there most file.Demand (files doc.Demand) demand is)

no_profile : (files : Files) (most : ℕ) (demand : List ℕ) (asked : Bool) → text_within most files file.Demand ≡ Ok demand → asked ≡ is_matrix demand → (d : Doc) → roads_ask files d ≡ false → Some doc.Profile ≡ Some d → asked ≡ false
no_profile files most demand asked is matrix d none same = matrix ∙ sym (asks_profile files most demand is) ∙ ap (roads_ask files) (let here : doc.Profile ≡ d = cc in here) ∙ none

no_doc : (files : Files) (one d : Doc) → roads_ask files one ≡ true → roads_ask files d ≡ false → Some one ≡ Some d → ⊥
no_doc files one d asked none same = false≢true (sym none ∙ ap (roads_ask files) (let here : d ≡ one = cc in here) ∙ asked)

-- no other file is asked for
pub roads_stay : (told mid : Option Files) (most : ℕ) (demand : List ℕ) (asked : Bool) (first second third fourth last : Doc → ℕ) → mid ≡ told
    → IfSome mid (λ files. text_within most files file.Demand ≡ Ok demand) → asked ≡ is_matrix demand
    → ((d : Doc) → (Some doc.Setup ≡ Some d → ⊥) → second d ≡ first d) → ((d : Doc) → (Some doc.Links ≡ Some d → ⊥) → third d ≡ second d) → ((d : Doc) → (Some doc.Demand ≡ Some d → ⊥) → fourth d ≡ third d)
    → ((d : Doc) → (Some doc.Profile ≡ Some d → asked ≡ false) → last d ≡ fourth d) → IfSome told (λ files. (d : Doc) → roads_ask files d ≡ false → last d ≡ first d)
roads_stay None mid most demand asked first second third fourth last keeps is matrix a b c e = tt
roads_stay (Some files) mid most demand asked first second third fourth last keeps is matrix a b c e = λ d none.
    let there : text_within most files file.Demand ≡ Ok demand = subst (λ o. IfSome o (λ fs. text_within most fs file.Demand ≡ Ok demand)) keeps is in
    e d (no_profile files most demand asked there matrix d none) ∙ c d (no_doc files doc.Demand d refl none) ∙ b d (no_doc files doc.Links d refl none) ∙ a d (no_doc files doc.Setup d refl none)

-- ---- one of the two files
pub no_limits : (asked : Asked) (d : Doc) → is_asked asked d ≡ false → Some doc.Limits ≡ Some d → asked.limits ≡ false
no_limits asked d none is = let same : d ≡ doc.Limits = cc in ap (is_asked asked) (sym same) ∙ none

-- ---- the same, where the folder tells its files
pub told_fault : (told mid : Option Files) (texts : CaseTexts) (bytes : List ℕ) (opened : Opened) (e : CaseFault) → mid ≡ told → IfSome told (λ files. texts_of files ≡ Ok texts) → bytes ≡ texts.roads.setup → setup_of (records_of bytes) ≡ Ok opened → IfSome mid (λ files. Agrees (limit_texts_of files opened.asked) e) → IfSome told (λ files. Agrees (parts_of files) e)
told_fault None mid texts bytes opened e keeps there is opens said = tt
told_fault (Some files) mid texts bytes opened e keeps there is opens said =
    limits_fault files texts opened e there (ap (λ b. setup_of (records_of b)) (sym is) ∙ opens)
    (subst (λ o. IfSome o (λ fs. Agrees (limit_texts_of fs opened.asked) e)) keeps said)

pub told_asked : (told : Option Files) (texts : CaseTexts) (bytes : List ℕ) (opened : Opened) (e : CaseFault) → IfSome told (λ files. texts_of files ≡ Ok texts) → bytes ≡ texts.roads.setup → setup_of (records_of bytes) ≡ Ok opened → WasAsked (is_asked opened.asked) e → IfSome told (λ files. WasAsked (asks_for files) e)
told_asked None texts bytes opened e there is opens asked = tt
told_asked (Some files) texts bytes opened e there is opens asked =
    limits_asked files texts opened e there (ap (λ b. setup_of (records_of b)) (sym is) ∙ opens) asked

pub told_others : (told : Option Files) (texts : CaseTexts) (bytes : List ℕ) (opened : Opened) (before mid now : Doc → ℕ) → IfSome told (λ files. texts_of files ≡ Ok texts) → bytes ≡ texts.roads.setup → setup_of (records_of bytes) ≡ Ok opened → IfSome told (λ files. (d : Doc) → each_asks files d ≡ false → mid d ≡ before d) → ((d : Doc) → is_asked opened.asked d ≡ false → now d ≡ mid d) → IfSome told (λ files. (d : Doc) → asks_for files d ≡ false → now d ≡ before d)
told_others None texts bytes opened before mid now there is opens first then = tt
told_others (Some files) texts bytes opened before mid now there is opens first then =
    others_stay files texts opened before mid now there (ap (λ b. setup_of (records_of b)) (sym is) ∙ opens) first then
