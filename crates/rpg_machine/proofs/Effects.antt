-- What a call did by an effect on the world.
use Rattle.std.proofs.Common.{◌≡◌, ℕ, ◌+◌, refl}
use Rattle.std.specs.Ordering.{nat_cmp}
use Rattle.rpg_program.specs.Effect.{Effect}
use Rattle.rpg_program.specs.Ends.{End}
use Rattle.rpg_program.specs.Put.{Bytes, Held, IsDone, on_paper}
use Rattle.rpg_program.specs.World.{World}
use Rattle.rpg_machine.proofs.Making.{held}
use Rattle.rpg_machine.proofs.Steps.{output_of}
use Rattle.rpg_machine.specs.Outputs.{ByEffect}
use Rattle.rpg_machine.specs.Running.{Did, Running}

pub did_effect : (effect : World nat_cmp → Effect nat_cmp) (weight n : ℕ) (r : Running) (v : Held) (q : Bytes) (e : End) → n ≡ r.config.steps + weight → IsDone effect (held r) r.output e v q →
    Did (ByEffect weight effect) r e (record { program = r.program; config = record r.config { steps = n; world = v.world }; last = v.last; output = q })
did_effect effect weight n r v q e counted done = record {
  program = refl;
  following = λ previous l. let left = done.following previous l in record {
    out = output_of (effect (on_paper previous r.config.world));
    act = record {
      ends = left.ending;
      leads = λ j. record r.config { steps = counted j; world = left.world j };
      puts = refl;
    };
    last = left.last;
    bytes = left.bytes;
  };
}
