-- Where pairs stand in the index, before and after.
use Rattle.std.proofs.Common.{◌≡◌, ℕ, ◌^◌, ◌<◌, ap, sym, ◌∙◌}
use Rattle.std.specs.Prelude.{Option, unwrap_or}
use Rattle.ltm_curve.specs.Counts.{Counts}
use Rattle.ltm_loading.specs.Setting.{Setting, IsSetting}
use Rattle.ltm_loading.specs.Flows.{position}
use Rattle.ltm_index.specs.declared.read_index.ReadIndex.{ReadIndex}
use Rattle.ltm_index.specs.Lists.{entry_of}
use Rattle.ltm_repair.specs.Desk.{IsOther}
use Rattle.ltm_repair.specs.Index.{PlaceStays}
use Rattle.ltm_working.specs.Desks.{place_of}
use Rattle.ltm_working.specs.Placing.{PlacesPair}
use Rattle.ltm_working.proofs.Listing.{place_is}

pub placed_here : (s : Setting) (c : Counts) (x y : ReadIndex) (u t n i : ℕ) → PlacesPair s c x y u t n → i < n → place_of y (s.in_link u i) t ≡ position s c (s.in_link u i) t
placed_here s c x y u t n i places l = place_is y (s.in_link u i) t (position s c (s.in_link u i) t) (places.placed i l)

pub same_place : (x y : ReadIndex) (l v : ℕ) → entry_of y l v ≡ entry_of x l v → place_of y l v ≡ place_of x l v
unfolding place_of
same_place x y l v entry = ap (λ (o : Option ℕ). unwrap_or o (2 ^ 32)) entry

-- the places of other pairs stay
pub other_places : (s : Setting) (c : Counts) (x y : ReadIndex) (u t w v : ℕ) → IsSetting s → PlacesPair s c x y u t (s.ins u) → u < s.nodes → w < s.nodes → IsOther u t w v →
    PlaceStays s (place_of x) (place_of y) w v
other_places s c x y u t w v is places node here other = λ i l.
    let there : s.in_link w i < s.links = is.network.in_link_is_link w i here l in
    same_place x y (s.in_link w i) v
    (places.others (s.in_link w i) v there (λ j m same slot.
    other (sym (is.network.in_link_ends u j node m) ∙ (ap s.head same ∙ is.network.in_link_ends w i here l)) (sym slot)))
