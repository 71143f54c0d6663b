-- The laws of operands, and what they keep.
use Rattle.std.proofs.Common.{◌≡◌, ℕ, ◌+◌, ◌-◌, ◌<◌, cond, Option, Some, None, Ok, refl, sym, ap, ◌∙◌, arith, inl, inr, eqb, leb, eqb-true, ne_eqb}
use Rattle.std.specs.Option.{ForSome}
use Rattle.std.proofs.lemmas.Bool.{leb-false, leb-true, le-leb, lt-leb, eqb-false}
use Rattle.rpg_program.specs.declared.operation.Index.{Index}
use Rattle.rpg_program.specs.declared.operation.Index.TheVariants.{Blank, Literal, Field}
use Rattle.rpg_program.specs.declared.operation.Operand.{Operand}
use Rattle.rpg_object_format.specs.Format.{pair, row, two_bytes}
use Rattle.rpg_object_format.proofs.Laws.{IsFormat, IsRule, pair_law, row_law, two_law}
use Rattle.rpg_object_format.proofs.Rules.{any_number_law, value_is}
use Rattle.rpg_program.specs.Kept.{IsAnOperand, IsIndexRow, IsOperandRow}
use Rattle.rpg_object_format.specs.Operands.{if_operand, index_by_number, index_number, index_rule, no_operand, operand, operand_or_none, optional_of, unused_operand}
use Rattle.rpg_object_format.proofs.Choices.{decided, some_is}
use Rattle.rpg_object_format.proofs.ShapeLaws.{unused_number_law}

-- ---- indexes

index_again : (n : ℕ) → index_number (index_by_number n) ≡ n
index_again n =
    elim (decided (eqb n 0) Blank (cond (leb n 9999) (Literal n) (Field (n - 10000)))) [
      | inl w ↦ ap index_number w.1 ∙ sym (eqb-true _ _ w.0)
      | inr w ↦ elim (decided (leb n 9999) (Literal n) (Field (n - 10000))) [
        | inl u ↦ ap index_number (w.1 ∙ u.1)
        | inr u ↦ let large = leb-false _ _ u.0 in let number : 10000 + (n - 10000) ≡ n = omega arith in ap index_number (w.1 ∙ u.1) ∙ number
      ]
    ]

is_index_rule : IsRule index_rule index_number
is_index_rule n x e = ap index_number (sym (value_is (index_by_number n) x e)) ∙ index_again n

pub operand_law : IsFormat operand
unfolding operand
operand_law = row_law _ _ _ (λ a h. refl) (λ x. refl) (pair_law _ _ any_number_law (λ field. two_law _ _ is_index_rule))

pub unused_operand_law : IsFormat unused_operand
unfolding unused_operand
unused_operand_law = row_law _ _ _ (λ a h. refl) (λ x. refl) (pair_law _ _ unused_number_law (λ field. unused_number_law))

-- ---- an operand that may be missing

if_operand_again : (field : ℕ) (i : Index ℕ) → operand_or_none (if_operand field i) ≡ record { field = field; index = i }
if_operand_again field Blank =
    elim (decided (eqb field 0) None (Some (blank field))) [
      | inl w ↦ ap operand_or_none w.1 ∙ ap blank (sym (eqb-true _ _ w.0))
      | inr w ↦ ap operand_or_none w.1
    ]
  where
    blank : ℕ → Operand ℕ
    blank k = record { field = k; index = Blank }
if_operand_again field (Literal n) = refl
if_operand_again field (Field k) = refl

pub operand_again : (o : Operand ℕ) → operand_or_none (optional_of o) ≡ o
operand_again o = if_operand_again o.field o.index

if_operand_there : (field : ℕ) (i : Index ℕ) → ForSome (if_operand field i) IsAnOperand
if_operand_there field Blank o e =
    elim (decided (eqb field 0) None (Some (blank field))) [
      | inl w ↦ absurd (let k : None ≡ Some o = sym w.1 ∙ e in cc)
      | inr w ↦ let same = ap (λ (p : Operand ℕ). p.field) (some_is (blank field) o (sym w.1 ∙ e)) in λ z b. absurd (eqb-false _ _ w.0 (same ∙ z))
    ]
  where
    blank : ℕ → Operand ℕ
    blank k = record { field = k; index = Blank }
if_operand_there field (Literal n) o e = λ z b. absurd (let k : Literal n ≡ Blank = ap (λ (p : Operand ℕ). p.index) (some_is _ o e) ∙ b in cc)
if_operand_there field (Field m) o e = λ z b. absurd (let k : Field m ≡ Blank = ap (λ (p : Operand ℕ). p.index) (some_is _ o e) ∙ b in cc)

pub operand_there : (o : Operand ℕ) → ForSome (optional_of o) IsAnOperand
operand_there o = if_operand_there o.field o.index

some_back : (field : ℕ) (i : Index ℕ) → (field ≡ 0 → i ≡ Blank → ⊥) → if_operand field i ≡ Some (record { field = field; index = i })
some_back field Blank h = rw (ne_eqb field 0 (λ e. h e refl)) refl
some_back field (Literal n) h = refl
some_back field (Field k) h = refl

pub optional_back : (r : Option (Operand ℕ)) → ForSome r IsAnOperand → optional_of (operand_or_none r) ≡ r
optional_back None h = refl
optional_back (Some o) h = some_back o.field o.index (h o refl)

-- ---- what operands keep

index_is : (i : Index ℕ) → index_by_number (index_number i) ≡ i → index_number i < 65536 → IsIndexRow i
index_is Blank e small = tt
index_is (Literal n) e small =
    elim (decided (eqb n 0) Blank (cond (leb n 9999) (Literal n) (Field (n - 10000)))) [
      | inl w ↦ absurd (let k : Blank ≡ Literal n = sym w.1 ∙ e in cc)
      | inr w ↦ elim (decided (leb n 9999) (Literal n) (Field (n - 10000))) [
        | inl u ↦ let no = eqb-false _ _ w.0 in (omega arith, leb-true _ _ u.0)
        | inr u ↦ absurd (let k : Field (n - 10000) ≡ Literal n = sym u.1 ∙ sym w.1 ∙ e in cc)
      ]
    ]
index_is (Field k) e small = small

pub operand_kept : (o : Operand ℕ) → operand.Holds o → IsOperandRow o
unfolding operand row pair two_bytes
operand_kept o h = record { field = h.0.1; index = index_is o.index (value_is (index_by_number (index_number o.index)) o.index h.1.0) h.1.1 }

index_from : (i : Index ℕ) → IsIndexRow i → (index_by_number (index_number i) ≡ i) × (index_number i < 65536)
index_from Blank h = (refl, omega arith)
index_from (Literal n) h = (rw (ne_eqb n 0 (omega (arith, h.0)), le-leb n 9999 h.1) refl, omega (arith, h.1))
index_from (Field k) h =
    let large : 9999 < 10000 + k = omega arith in
    let some : 10000 + k ≡ 0 → ⊥ = omega arith in
    let back : 10000 + k - 10000 ≡ k = omega arith in
    (rw (ne_eqb (10000 + k) 0 some, lt-leb (10000 + k) 9999 large) (ap (λ (n : ℕ). Field n) back), h)

pub operand_from : (o : Operand ℕ) → IsOperandRow o → operand.Holds o
unfolding operand row pair two_bytes
operand_from o h = let i = index_from o.index h.index in ((refl, h.field), (ap (λ (j : Index ℕ). Ok j) i.0, i.1))

pub no_operand_row : IsOperandRow no_operand
no_operand_row = record { field = omega arith; index = tt }
