-- A pair is claimed and committed in one call.
use Rattle.std.proofs.Common.{◌≡◌, ℕ, ◌<◌, ◌&&◌, ◌||◌, not, List, Bool, false, true, refl, ap, sym, ◌∙◌, subst, arith, inl, inr}
use Rattle.std.proofs.lemmas.Bool.{cases_eq}
use Rattle.ltm_curve.specs.Table.{counts_of}
use Rattle.ltm_node.specs.Inputs.{Inputs}
use Rattle.ltm_node.specs.Outputs.{Outputs}
use Rattle.ltm_loading.specs.Setting.{Setting}
use Rattle.ltm_loading.specs.Pairs.{pair_row, pair_inputs}
use Rattle.ltm_frontier.specs.declared.frontier.Frontier.{Frontier}
use Rattle.ltm_frontier.specs.Frontier.{nodes_in, is_claimed, is_pair, ClaimsPair, Activates, Releases}
use Rattle.ltm_repair.specs.Answers.{DropsAtFront}
use Rattle.ltm_repair.specs.Desk.{Desk}
use Rattle.ltm_repair.specs.Facts.{IsSound}
use Rattle.ltm_repair.specs.Index.{IndexIsCurrent}
use Rattle.ltm_repair.specs.Moves.{Commits}
use Rattle.ltm_rows.specs.declared.claim_rows.ClaimRows.{ClaimRows}
use Rattle.ltm_working.specs.declared.table.Table.{Table}
use Rattle.ltm_rows.specs.Claims.{HasClaims, WritesClaim}
use Rattle.ltm_working.specs.Desks.{desk_at, place_of, changed_at}
use Rattle.ltm_working.specs.Ready.{ClaimsArePlaced, IsReady}
use Rattle.ltm_working.specs.Renewed.{RenewsPair}
use Rattle.ltm_working.specs.Searching.{IsFound}
use Rattle.ltm_working.specs.Committing.{readers, rewritten}
use Rattle.ltm_working.specs.Recomputing.{RecomputesInTable}
use Rattle.ltm_working.proofs.Bools.{or_false, and_false}
use Rattle.ltm_working.proofs.Desks.{claim_same, claim_off, same_desk, changed_same}
use Rattle.ltm_working.proofs.Dropping.{pair_test, other_test}
use Rattle.ltm_working.proofs.Searches.{found_answers}
use Rattle.ltm_working.proofs.Taking.{not_claimed, takes_desk, takes_ready}
use Rattle.ltm_working.proofs.Committed.{CommitsTable, committed}
use Rattle.ltm_working.proofs.Committing.{commits_desk, commits_ready, commits_cells}

-- ---- the rows beside claims
-- what is written beside a claim that is gone is nothing to the desk
same_without : (s : Setting) (c : Table) (k : ClaimRows) (u : ℕ) (row : List ℕ) → HasClaims s k → WritesClaim k c.claims u row → ((y : ℕ) → is_claimed c.frontier u y ≡ false) →
    desk_at s (record c { claims = k }) ≡ desk_at s c
same_without s c k u row has writes off =
    let e : Table = record c { claims = k } in
    same_desk s c e refl refl (λ w y p q. refl) (λ w y p q. elim (cases_eq w u) [
      | inr apart ↦ claim_same c e w y refl (sym (writes.others w (omega (arith, p, has.nodes)) (λ a. apart (sym a))))
      | inl same ↦
          let none : is_claimed c.frontier w y ≡ false = subst (λ (z : ℕ). is_claimed c.frontier z y ≡ false) (sym same) (off y) in
          claim_off e w y none ∙ sym (claim_off c w y none)
    ])

ready_without : (s : Setting) (c : Table) (k : ClaimRows) → IsReady s c → HasClaims s k → desk_at s (record c { claims = k }) ≡ desk_at s c → IsReady s (record c { claims = k })
ready_without s c k ready has same = record {
  fits = record {
    curves = ready.fits.curves;
    kept = ready.fits.kept;
    claims = has;
    frontier = ready.fits.frontier;
    index = ready.fits.index;
    changed = ready.fits.changed;
  };
  sound = subst (λ (d : Desk). IsSound s d) (sym same) ready.sound;
  index = subst (λ (d : Desk). IndexIsCurrent s d (place_of c.index)) (sym same) ready.index;
  claims = subst (λ (d : Desk). ClaimsArePlaced s d (place_of c.index)) (sym same) ready.claims;
  weights = ready.weights;
}

-- a pair that was found, claimed and freed leaves no claim of its node
freed : (s : Setting) (t : Table) (u v : ℕ) (n : Inputs) (b m f : Frontier) (woken : ℕ → ℕ → Bool) (y : ℕ) → IsReady s t → IsFound s t u v n → ClaimsPair t.frontier b u v → Activates b m woken → Releases m f u v →
    is_claimed f u y ≡ false
freed s t u v n b m f woken y ready found marks wakes frees =
    let node : u < nodes_in t.frontier = omega (arith, found.work.work.is_node, ready.fits.frontier.nodes) in
    let here : is_claimed f u y ≡ (is_claimed m u y && not (is_pair u v u y)) = frees.claimed u y (omega (arith, node, marks.size.nodes, wakes.size.nodes)) in
    elim (cases_eq y v) [
      | inl at ↦ here ∙ (ap (λ z. is_claimed m u y && not z) (subst (λ (z : ℕ). is_pair u v u z ≡ true) (sym at) (pair_test u v)) ∙ and_false (is_claimed m u y))
      | inr apart ↦
          let was : is_claimed m u y ≡ false =
          wakes.claims.pairs u y
          ∙ (marks.claimed u y node
          ∙ (ap (λ z. is_claimed t.frontier u y || z) (other_test u v u y (λ a b. apart (sym b))) ∙ (or_false (is_claimed t.frontier u y) ∙ not_claimed s t u v n u y ready found node apart))) in
          here ∙ ap (λ z. z && not (is_pair u v u y)) was
    ]

-- ---- a pair that was found is claimed and committed
abbrev pub between : Table → Frontier → ClaimRows → Table
between t b r = record t { frontier = b; claims = r }

-- it is marked as claimed and committed, with inputs beside the claim that are not written
pub record SetsFound (s : Setting) (t : Table) (u v : ℕ) (n : Inputs) (o : Outputs) (b : Frontier) (mid end : Table) (r : ClaimRows) : Type 0 where
  pub ready : IsReady s t
  pub found : IsFound s t u v n
  pub marks : ClaimsPair t.frontier b u v
  pub writes : WritesClaim t.claims r u (pair_row s (counts_of t.curves) u v)
  pub commits : CommitsTable s (between t b r) u v (pair_inputs s (counts_of t.curves) u v) o mid end

-- whatever stands beside the claims, the pair's counts are set alike
pub renews_beside : (s : Setting) (u k : ℕ) (o : Outputs) (old mid : Table) (r : ClaimRows) → HasClaims s r → RenewsPair s u k o old mid → RenewsPair s u k o (record old { claims = r }) (record mid { claims = r })
renews_beside s u k o old mid r has renews = record {
  fits = record { curves = renews.fits.curves; kept = renews.fits.kept; claims = has; frontier = renews.fits.frontier; index = renews.fits.index; changed = renews.fits.changed };
  same = ap (λ (z : Table). record z { claims = r }) renews.same;
  applies = renews.applies;
  cells = renews.cells;
  wakes = renews.wakes;
  kept = renews.kept;
}

same_after : (s : Setting) (t : Table) (u v : ℕ) (n : Inputs) (o : Outputs) (b : Frontier) (mid end : Table) (r : ClaimRows) → SetsFound s t u v n o b mid end r →
    desk_at s (committed t mid end) ≡ desk_at s (committed (between t b r) mid end)
same_after s t u v n o b mid end r is =
    same_without s (committed (between t b r) mid end) t.claims u (pair_row s (counts_of t.curves) u v) is.ready.fits.claims is.writes
    (λ y. freed s t u v n b mid.frontier end.frontier _ y is.ready is.found is.marks is.commits.renews.wakes is.commits.frees)

pub recomputed_ready : (s : Setting) (t : Table) (u v : ℕ) (n : Inputs) (o : Outputs) (b : Frontier) (mid end : Table) (r : ClaimRows) → SetsFound s t u v n o b mid end r → IsReady s (committed t mid end)
recomputed_ready s t u v n o b mid end r is =
    ready_without s (committed (between t b r) mid end) t.claims (commits_ready s (between t b r) u v (pair_inputs s (counts_of t.curves) u v) o mid end is.commits) is.ready.fits.claims (same_after s t u v n o b mid end r is)

pub recomputes_pair : (s : Setting) (t : Table) (u v : ℕ) (n : Inputs) (o : Outputs) (b : Frontier) (mid end : Table) (r : ClaimRows) → SetsFound s t u v n o b mid end r → (before : Table) →
    DropsAtFront s (desk_at s before) (desk_at s t) → changed_at s t ≡ changed_at s before → RecomputesInTable s before u v (pair_row s (counts_of t.curves) u v) (committed t mid end)
recomputes_pair s t u v n o b mid end r is before drops cells =
    let claimed : Table = between t b r in
    let new : Table = committed t mid end in
    let same : desk_at s new ≡ desk_at s (committed claimed mid end) = same_after s t u v n o b mid end r is in
    record {
      between = claimed;
      ready = takes_ready s t u v n b r is.ready is.found is.marks is.writes;
      claims = λ ticket. found_answers s (desk_at s before) t u v ticket n (pair_row s (counts_of t.curves) u v) (desk_at s claimed) drops is.found (takes_desk s t u v n b r is.ready is.found is.marks is.writes);
      same = changed_same s t claimed refl ∙ cells;
      commits = record {
        commits = subst (λ (d : Desk). Commits s (desk_at s claimed) u v (pair_row s (counts_of t.curves) u v) (readers s (desk_at s claimed) d u v) d) (sym same) (commits_desk s claimed u v (pair_inputs s (counts_of t.curves) u v) o mid end is.commits);
        cells = λ g y.
            ap (λ (z : ℕ → ℕ → Bool). z g y) (changed_same s (committed claimed mid end) new refl)
            ∙ (commits_cells s claimed u v (pair_inputs s (counts_of t.curves) u v) o mid end is.commits g y ∙ ap (λ (d : Desk). changed_at s claimed g y || rewritten s (desk_at s claimed) d g y) (sym same));
      };
    }
