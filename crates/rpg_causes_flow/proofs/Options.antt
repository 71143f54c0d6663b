-- Options as tests.
use Rattle.std.proofs.Common.{◌≡◌, Bool, true, false, not, cond, ◌||◌, Option, None, Some, refl}
use Rattle.std.specs.Option.{option_or}
use Rattle.std.specs.Prelude.{is_none, is_some}

pub some_if : {X : Type 0} (x : X) (b : Bool) → is_some (cond b (Some x) None) ≡ b
some_if x true = refl
some_if x false = refl

pub unless : {X : Type 0} (x : X) (b : Bool) → is_some (cond b None (Some x)) ≡ not b
unless x true = refl
unless x false = refl

pub unless_some : {X Y : Type 0} (x : X) (o : Option Y) → is_some (cond (is_some o) None (Some x)) ≡ is_none o
unless_some x None = refl
unless_some x (Some y) = refl

pub some_or : {X : Type 0} (a b : Option X) → is_some (option_or a b) ≡ (is_some a || is_some b)
some_or None b = refl
some_or (Some x) b = refl

pub or_none : {X : Type 0} (a : Option X) → option_or a None ≡ a
or_none None = refl
or_none (Some x) = refl

pub or_assoc : {X : Type 0} (a b c : Option X) → option_or (option_or a b) c ≡ option_or a (option_or b c)
or_assoc None b c = refl
or_assoc (Some x) b c = refl
