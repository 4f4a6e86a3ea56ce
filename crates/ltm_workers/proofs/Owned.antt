-- Each claimed pair is held by some worker.
use Rattle.std.proofs.Common.{◌≡◌, ◌≢◌, ℕ, zero, suc, ◌<◌, List, [], ◌∷◌, length, inl, inr, refl, ap, sym, ◌∙◌, slice_index_or, slice_set, get_or-set_same, get_or-set_other}
use Rattle.std.specs.Prelude.{Some, None}
use Rattle.std.proofs.lemmas.Bool.{cases_eq}
use Rattle.ltm_flows.specs.Setting.{Setting}
use Rattle.ltm_repair.specs.Desk.{Desk, IsOther}
use Rattle.ltm_repair.proofs.Cases.{cases_pair, cases_option}
use Rattle.ltm_workers.specs.Driving.{Held}

-- each claimed pair is held by some worker
abbrev pub IsOwned : Setting → Desk → List Held → Type 0
IsOwned s d held = (u t : ℕ) → u < s.nodes → t < s.slots → d.claimed u t ≢ None → (i : ℕ) × (slice_index_or held i None ≡ Some (u, t))

-- a worker that holds a pair
abbrev pub holding : ℕ → ℕ → Held
holding u t = Some (u, t)

abbrev node_in : Held → ℕ
node_in None = 0
node_in (Some pair) = pair.0

abbrev slot_in : Held → ℕ
slot_in None = 0
slot_in (Some pair) = pair.1

some_same : (u t x y : ℕ) → holding u t ≡ holding x y → (u ≡ x) × (t ≡ y)
some_same u t x y e = (ap node_in e, ap slot_in e)

none_some : (h : Held) (x y : ℕ) → h ≡ None → h ≡ Some (x, y) → ⊥
none_some h x y e f = cc

-- a pair is no longer claimed, and its worker holds it no longer
pub owned_freed : (s : Setting) (d e : Desk) (held : List Held) (w u t : ℕ) → IsOwned s d held → slice_index_or held w None ≡ Some (u, t) → e.claimed u t ≡ None →
    ((x y : ℕ) → IsOther u t x y → e.claimed x y ≡ d.claimed x y) → IsOwned s e (slice_set held w None)
owned_freed s d e held w u t owned holds free others x y lx ly claimed =
    elim (cases_pair u t x y) [
      | inl (same_u, same_t) ↦ absurd (claimed (rw (← same_u, ← same_t) free))
      | inr apart ↦
          let before = owned x y lx ly (λ none. claimed (others x y apart ∙ none)) in
          elim (cases_eq before.0 w) [
            | inl at ↦
                let both : holding u t ≡ holding x y = sym holds ∙ (ap (λ (i : ℕ). slice_index_or held i None) (sym at) ∙ before.1) in
                let same = some_same u t x y both in absurd (apart same.0 same.1)
            | inr other ↦ (before.0, get_or-set_other held w before.0 None None other ∙ before.1)
          ]
    ]

-- a pair is claimed, and a worker that held none holds it
pub owned_taken : (s : Setting) (d e : Desk) (held : List Held) (w u t : ℕ) → IsOwned s d held → slice_index_or held w None ≡ None → w < length held →
    ((x y : ℕ) → IsOther u t x y → e.claimed x y ≡ d.claimed x y) → IsOwned s e (slice_set held w (Some (u, t)))
owned_taken s d e held w u t owned none within others x y lx ly claimed =
    elim (cases_pair u t x y) [
      | inl (same_u, same_t) ↦ (w, rw (← same_u, ← same_t) (get_or-set_same held w (Some (u, t)) None within))
      | inr apart ↦
          let before = owned x y lx ly (λ no. claimed (others x y apart ∙ no)) in
          elim (cases_eq before.0 w) [
            | inl at ↦ absurd (none_some (slice_index_or held w None) x y none (ap (λ (i : ℕ). slice_index_or held i None) (sym at) ∙ before.1))
            | inr other ↦ (before.0, get_or-set_other held w before.0 (Some (u, t)) None other ∙ before.1)
          ]
    ]

later_holds : (first : Held) (held : List Held) (i : ℕ) (x y : ℕ) → (first ≡ Some (x, y) → ⊥) → slice_index_or (first ∷ held) i None ≡ Some (x, y) → (j : ℕ) × (slice_index_or held j None ≡ Some (x, y))
later_holds first held zero x y other e = absurd (other e)
later_holds first held (suc i) x y other e = (i, e)

-- the first worker holds none
pub owned_rest : (s : Setting) (d : Desk) (held : List Held) → IsOwned s d (None ∷ held) → IsOwned s d held
owned_rest s d held owned x y lx ly claimed = let before = owned x y lx ly claimed in later_holds None held before.0 x y (λ e. none_some None x y refl e) before.1

-- no worker holds any
pub owned_none : (s : Setting) (d : Desk) → IsOwned s d [] → (u t : ℕ) → u < s.nodes → t < s.slots → d.claimed u t ≡ None
owned_none s d owned u t lu lt =
    elim (cases_option (d.claimed u t)) [
      | inl none ↦ none
      | inr (row, is) ↦ let held = owned u t lu lt (λ none. cc) in absurd (none_some None u t refl held.1)
    ]
