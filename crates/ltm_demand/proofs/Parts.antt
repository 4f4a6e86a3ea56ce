-- What one row has produced.
use Rattle.std.proofs.Common.{◌≡◌, ℕ, ◌+◌, ◌-◌, ◌*◌, ◌/◌, ◌<◌, ◌≤◌, nat_le, nat_lt, true, false, cond, arith, refl, sym, ap, ◌∙◌, inl, inr}
use Rattle.std.proofs.Math.Nat.{div-le_of_le-mul, mul-le-mul_left, div-mul-le_self, mul-div_cancel}
use Rattle.std.proofs.lemmas.Nat.{le-div}
use Rattle.std.proofs.lemmas.Bool.{cases_lt}
use Rattle.std.proofs.lemmas.Bool.Decides.{nat_tests}
use Rattle.ltm_demand.specs.declared.row.DemandRow.{DemandRow}
use Rattle.ltm_demand.specs.Produced.{produced, part, joins}

share_le : (a k n : ℕ) → k ≤ n → a * k / n ≤ a
share_le a k n less = div-le_of_le-mul n (omega (arith, mul-le-mul_left a less))

-- a row has produced at most its amount
pub produced_le : (from to amount t : ℕ) → produced from to amount t ≤ amount
unfolding produced
produced_le from to amount t =
    elim (nat_lt t from) as (λ b. nat_lt t from ≡ b → cond b 0 (cond (nat_le to (t + 1)) amount (amount * (t + 1 - from) / (to - from))) ≤ amount) [
      | true ↦ λ _. omega arith
      | false ↦ λ _. elim (nat_le to (t + 1)) as (λ b. nat_le to (t + 1) ≡ b → cond b amount (amount * (t + 1 - from) / (to - from)) ≤ amount) [
        | true ↦ λ _. omega arith
        | false ↦ λ after. let less : t + 1 - from ≤ to - from = grind (arith, nat_tests) in share_le amount (t + 1 - from) (to - from) less
      ] refl
    ] refl

-- before its first slot it has produced nothing
pub produced_before : (from to amount t : ℕ) → nat_lt t from ≡ true → produced from to amount t ≡ 0
unfolding produced
produced_before from to amount t early = ap (λ b. cond b 0 (cond (nat_le to (t + 1)) amount (amount * (t + 1 - from) / (to - from)))) early

pub produced_start : (from to amount t : ℕ) → t < from → produced from to amount t ≡ 0
produced_start from to amount t early = produced_before from to amount t (grind (arith, nat_tests))

-- from its last slot on it has produced everything, so two such slots are alike
pub produced_after : (from to amount t : ℕ) → from ≤ t → to ≤ t + 1 → produced from to amount t ≡ amount
unfolding produced
produced_after from to amount t started ended =
    let s : nat_lt t from ≡ false = grind (arith, nat_tests) in
    let e : nat_le to (t + 1) ≡ true = grind (arith, nat_tests) in
    ap (λ b. cond b 0 (cond (nat_le to (t + 1)) amount (amount * (t + 1 - from) / (to - from)))) s ∙ ap (λ b. cond b amount (amount * (t + 1 - from) / (to - from))) e

pub part_le : (o d t : ℕ) (row : DemandRow) → part o d t row ≤ row.amount.0
unfolding part
part_le o d t row =
    elim (joins o d row) as (λ b. cond b (produced row.from row.to row.amount.0 t) 0 ≤ row.amount.0) [
      | true ↦ produced_le row.from row.to row.amount.0 t
      | false ↦ omega arith
    ]

div_rises : (x y k : ℕ) → 0 < k → x ≤ y → x / k ≤ y / k
div_rises x y k some less = le-div (x / k) y k some (omega (arith, div-mul-le_self x k))

produced_between : (from to amount t : ℕ) → nat_lt t from ≡ false → nat_le to (t + 1) ≡ false → produced from to amount t ≡ amount * (t + 1 - from) / (to - from)
unfolding produced
produced_between from to amount t started going =
    ap (λ b. cond b 0 (cond (nat_le to (t + 1)) amount (amount * (t + 1 - from) / (to - from)))) started ∙ ap (λ b. cond b amount (amount * (t + 1 - from) / (to - from))) going

-- over its own slots it has produced in proportion
pub produced_going : (from to amount t : ℕ) → from ≤ t → t < to → produced from to amount t ≡ amount * (t + 1 - from) / (to - from)
produced_going from to amount t started going = elim (cases_lt (t + 1) to) [
  | inl before ↦ produced_between from to amount t (grind (arith, nat_tests)) (grind (arith, nat_tests))
  | inr last ↦
      let whole : t + 1 - from ≡ to - from = omega arith in
      let some : 0 < to - from = omega arith in
      produced_after from to amount t started last ∙ sym (ap (λ k. amount * k / (to - from)) whole ∙ mul-div_cancel amount some)
]

-- what is told of one more slot of its own
pub paced : (from to amount t a p s told : ℕ) → from ≤ t → t < to → a ≡ amount → s ≡ to - from → p + from ≡ t → told ≡ a * (p + 1) / s → told ≡ produced from to amount t
paced from to amount t a p s told started going amounts slots passed is =
    let more : p + 1 ≡ t + 1 - from = omega arith in
    is ∙ ap (λ n. n * (p + 1) / s) amounts ∙ ap (λ k. amount * k / s) more ∙ ap (λ n. amount * (t + 1 - from) / n) slots ∙ sym (produced_going from to amount t started going)

-- what a row has produced never falls
pub produced_rises : (from to amount s t : ℕ) → s ≤ t → produced from to amount s ≤ produced from to amount t
produced_rises from to amount s t later =
    elim (nat_lt s from) as (λ b. nat_lt s from ≡ b → produced from to amount s ≤ produced from to amount t) [
      | true ↦ λ early. omega (arith, produced_before from to amount s early)
      | false ↦ λ started.
          let begun : from ≤ s = grind (arith, nat_tests) in
          let also : nat_lt t from ≡ false = grind (arith, nat_tests) in
          elim (nat_le to (t + 1)) as (λ b. nat_le to (t + 1) ≡ b → produced from to amount s ≤ produced from to amount t) [
            | true ↦ λ ended. let done : to ≤ t + 1 = grind (arith, nat_tests) in omega (arith, produced_le from to amount s, produced_after from to amount t (omega arith) done)
            | false ↦ λ going.
                let open' : t + 1 < to = grind (arith, nat_tests) in
                let before : nat_le to (s + 1) ≡ false = grind (arith, nat_tests) in
                let less : amount * (s + 1 - from) ≤ amount * (t + 1 - from) = mul-le-mul_left amount (let l : s + 1 - from ≤ t + 1 - from = omega arith in l) in
                omega (arith, produced_between from to amount s started before, produced_between from to amount t also going, div_rises (amount * (s + 1 - from)) (amount * (t + 1 - from)) (to - from) (omega arith) less)
          ] refl
    ] refl

pub part_rises : (o d s t : ℕ) → s ≤ t → (row : DemandRow) → part o d s row ≤ part o d t row
unfolding part
part_rises o d s t later row =
    elim (joins o d row) as (λ b. cond b (produced row.from row.to row.amount.0 s) 0 ≤ cond b (produced row.from row.to row.amount.0 t) 0) [
      | true ↦ produced_rises row.from row.to row.amount.0 s t later
      | false ↦ omega arith
    ]
