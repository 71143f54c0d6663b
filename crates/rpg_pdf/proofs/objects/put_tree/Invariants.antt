use Rattle.std.proofs.Common.{◌≡◌, ◌++◌}
use Rattle.rpg_pdf.specs.Objects.{kids}
use Rattle.rpg_pdf.proofs.objects.put_tree.Given as goal

abbrev pub invariant-loop-page : goal.invariant-loop-page
invariant-loop-page l = l.out.items ≡ l.initial.out.items ++ kids l.page
