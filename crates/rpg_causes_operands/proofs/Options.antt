-- Options that are none.
use Rattle.std.proofs.Common.{◌≡◌, false, Option, None, Some, refl}
use Rattle.std.specs.Prelude.{is_some}

pub none_of : {X : Type 0} (o : Option X) → is_some o ≡ false → o ≡ None
none_of None e = refl
none_of (Some x) e = absurd cc
