use Rattle.std.proofs.Common.{◌≡◌, ℕ, ◌+◌, ◌<◌, ◌≤◌, get_or, vec_len}
use Rattle.ltm_limits.specs.Tables.{said}
use Rattle.ltm_limits.proofs.limits.exchange.Given as goal

abbrev pub invariant-loop-k : goal.invariant-loop-k
invariant-loop-k l = record {
  len : vec_len l.table ≡ vec_len l.initial.table;
  written : (k : ℕ) → k < l.k → said l.table.items l.links l.link (l.from + k) ≡ get_or l.initial.values k 0;
  before : (slot : ℕ) → slot < l.from → said l.table.items l.links l.link slot ≡ said l.initial.table.items l.links l.link slot;
  behind : (slot : ℕ) → l.from + l.k ≤ slot → said l.table.items l.links l.link slot ≡ said l.initial.table.items l.links l.link slot;
  others : (m slot : ℕ) → m < l.links → (m ≡ l.link → ⊥) → said l.table.items l.links m slot ≡ said l.initial.table.items l.links m slot;
  were : (k : ℕ) → k < l.k → get_or l.values k 0 ≡ said l.initial.table.items l.links l.link (l.from + k);
  rest : (k : ℕ) → l.k ≤ k → get_or l.values k 0 ≡ get_or l.initial.values k 0;
}
