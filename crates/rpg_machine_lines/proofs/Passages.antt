-- Lines for which no alternative is due at a passage.
use Rattle.std.proofs.Common.{◌≡◌, ℕ, Bool, true, false, ◌&&◌, ◌||◌, cond, List, [], ◌∷◌, Option, refl, nat_cmp}
use Rattle.std.specs.FinSet as sets
use Rattle.rpg_program.specs.Lines.{is_due, is_pass, names_overflow, pass_of}
use Rattle.rpg_program.specs.World.{all_hold}
use Rattle.rpg_program.specs.declared.condition.Condition.{Condition}
use Rattle.rpg_program.specs.declared.line.Pass.{Pass}
use Rattle.rpg_program.specs.declared.line.Pass.TheVariants as passes
use Rattle.rpg_program.specs.declared.line.Time.{Time}
use Rattle.rpg_program.specs.declared.line.Time.TheVariants as times
use Rattle.rpg_machine_lines.specs.Passages.{counts_at, may_count}

-- neither of two passages
neither : (b : Bool) (p q r : Pass) → (is_pass p r ≡ false) × (is_pass q r ≡ false) → is_pass (cond b p q) r ≡ false
neither true p q r h = h.0
neither false p q r h = h.1

no_detail : (pass : Pass) → may_count times.Detail pass ≡ false → (is_pass passes.OverflowDetail pass ≡ false) × (is_pass passes.Detail pass ≡ false)
no_detail passes.Detail h = cc
no_detail passes.Total h = (refl, refl)
no_detail passes.OverflowTotal h = (refl, refl)
no_detail passes.OverflowDetail h = cc
no_detail passes.Exception h = (refl, refl)

no_heading : (pass : Pass) → may_count times.Heading pass ≡ false → may_count times.Detail pass ≡ false
no_heading passes.Detail h = h
no_heading passes.Total h = h
no_heading passes.OverflowTotal h = h
no_heading passes.OverflowDetail h = h
no_heading passes.Exception h = h

no_total : (pass : Pass) → may_count times.Total pass ≡ false → (is_pass passes.OverflowTotal pass ≡ false) × (is_pass passes.Total pass ≡ false)
no_total passes.Detail h = (refl, refl)
no_total passes.Total h = cc
no_total passes.OverflowTotal h = cc
no_total passes.OverflowDetail h = (refl, refl)
no_total passes.Exception h = (refl, refl)

no_exception : (pass : Pass) → may_count times.Exception pass ≡ false → is_pass passes.Exception pass ≡ false
no_exception passes.Detail h = refl
no_exception passes.Total h = refl
no_exception passes.OverflowTotal h = refl
no_exception passes.OverflowDetail h = refl
no_exception passes.Exception h = cc

counts_elsewhere : (indicator : Option ℕ) (time : Time) (pass : Pass) (cs : List Condition) → may_count time pass ≡ false → is_pass (pass_of indicator time cs) pass ≡ false
unfolding pass_of
counts_elsewhere indicator times.Heading pass cs h = neither (names_overflow indicator cs) passes.OverflowDetail passes.Detail pass (no_detail pass (no_heading pass h))
counts_elsewhere indicator times.Detail pass cs h = neither (names_overflow indicator cs) passes.OverflowDetail passes.Detail pass (no_detail pass h)
counts_elsewhere indicator times.Total pass cs h = neither (names_overflow indicator cs) passes.OverflowTotal passes.Total pass (no_total pass h)
counts_elsewhere indicator times.Exception pass cs h = no_exception pass h

-- where no alternative may count, none is met
pub none_due : (indicator : Option ℕ) (pass : Pass) (on : sets.FinSet nat_cmp) (time : Time) (alternatives : List (List Condition)) →
    may_count time pass ≡ false → is_due indicator pass on time alternatives ≡ false
none_due indicator pass on time [] h = refl
none_due indicator pass on time (cs ∷ rest) h = rw (counts_elsewhere indicator time pass cs h) (none_due indicator pass on time rest h)

any_fewer : (a b c d : Bool) → (a || c) ≡ false → (c ≡ false → d ≡ false) → ((a && b) || d) ≡ false
any_fewer true b c d h k = cc
any_fewer false b c d h k = k h

-- where no alternative counts, none is met
pub none_counts : (indicator : Option ℕ) (pass : Pass) (on : sets.FinSet nat_cmp) (time : Time) (alternatives : List (List Condition)) →
    counts_at indicator time alternatives pass ≡ false → is_due indicator pass on time alternatives ≡ false
none_counts indicator pass on time [] h = refl
none_counts indicator pass on time (cs ∷ rest) h =
    any_fewer (is_pass (pass_of indicator time cs) pass) (all_hold on cs) (counts_at indicator time rest pass) (is_due indicator pass on time rest) h
    (none_counts indicator pass on time rest)
