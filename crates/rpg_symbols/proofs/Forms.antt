-- Forms that agree in every part are equal.
use denote.Enum.Bare.{same_true}
use mathlib.Core.Bool.{beq}
use Rattle.std.proofs.Common.{◌≡◌, Bool, true, false, ℕ, refl}
use Rattle.std.proofs.lemmas.Bool.{and_parts, eqb-true}
use Rattle.rpg_program.specs.contracts.form.Class as class
use Rattle.rpg_program.specs.contracts.form.Kind as kind
use Rattle.rpg_program.specs.declared.form.Class.{Class}
use Rattle.rpg_program.specs.declared.form.FieldForm.{FieldForm}
use Rattle.rpg_program.specs.declared.form.Kind.{Kind}
use Rattle.rpg_symbols.specs.Fields.{same_form}

flag_equal : (a b : Bool) → beq a b ≡ true → a ≡ b
flag_equal true true e = refl
flag_equal false false e = refl
flag_equal true false e = cc
flag_equal false true e = cc

-- a form of its parts
made : Kind → Class → ℕ → ℕ → Bool → ℕ → FieldForm
made k c l d a n = record { kind = k; class = c; length = l; decimals = d; is_ascending = a; entries = n }

made_equal : (f g : FieldForm) → same_form f g ≡ true → made f.kind f.class f.length f.decimals f.is_ascending f.entries ≡ made g.kind g.class g.length g.decimals g.is_ascending g.entries
made_equal f g e =
    let p5 = and_parts _ _ e in
    let p4 = and_parts _ _ p5.0 in
    let p3 = and_parts _ _ p4.0 in
    let p2 = and_parts _ _ p3.0 in
    let p1 = and_parts _ _ p2.0 in
    let k : f.kind ≡ g.kind = same_true kind.the_type tt f.kind g.kind p1.0 in
    let c : f.class ≡ g.class = same_true class.the_type tt f.class g.class p1.1 in
    let l : f.length ≡ g.length = eqb-true f.length g.length p2.1 in
    let d : f.decimals ≡ g.decimals = eqb-true f.decimals g.decimals p3.1 in
    let a : f.is_ascending ≡ g.is_ascending = flag_equal f.is_ascending g.is_ascending p4.1 in
    let n : f.entries ≡ g.entries = eqb-true f.entries g.entries p5.1 in
    cc

pub same_form-equal : (f g : FieldForm) → same_form f g ≡ true → f ≡ g
unfolding made
same_form-equal f g e = made_equal f g e
