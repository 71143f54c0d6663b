use Rattle.std.proofs.Common.{◌<◌, ◌≤◌, ◌++◌, refl, ap₂, arith}
use Rattle.std.proofs.lemmas.Result.{err_from_is_err_and}
use Rattle.rpg_files.proofs.Advancing.{advances}
use Rattle.rpg_files.proofs.reader.RecordReader.read_next.Goals as goal

pub returns-in-Bad-clause-next : goal.returns-in-Bad-clause-next
returns-in-Bad-clause-next g c =
    let most : c.args.self.now.count ≤ 10000000 = c.args.self.now.few in
    let few : c.args.self.now.count < 10000000 = omega arith in
    let bad = rw c.in-Bad.is at c.in_ok-len.ensures.ok in
    record { limit = refl; count = refl; faults = c.in_ok-len.ensures.faults; input = advances _ _ _ _ _ _ _ _ _ c.consume.ensures.bytes c.read_line.ensures.read (λ more can. (few, bad more can)); waits = λ is. absurd cc }

pub returns-in-End-clause-next : goal.returns-in-End-clause-next
returns-in-End-clause-next g c =
    let none = rw c.in-End.is at c.in_ok-len.ensures.ok in
    record { limit = refl; count = refl; faults = c.in_ok-len.ensures.faults; input = advances _ _ _ _ _ _ _ _ _ c.consume.ensures.bytes c.read_line.ensures.read (λ more can. let is = ap₂ (◌++◌) none.0 (can none.1) in (is, is)); waits = λ is. absurd cc }

pub returns-in_err-len-clause-next : goal.returns-in_err-len-clause-next
returns-in_err-len-clause-next g c =
    let e = err_from_is_err_and c.from_residual-in_err-len.result c.from_residual-in_err-len.ensures.1 in
    rw (e.1, e.2) (record {
      limit = refl;
      count = refl;
      faults = c.in_err-len.ensures.faults;
      input = advances _ _ _ _ _ _ _ _ _ c.consume.ensures.bytes c.read_line.ensures.read (λ more can. refl);
      waits = λ is. c.in_err-len.ensures.waits;
    })

pub returns-in-Record-clause-next : goal.returns-in-Record-clause-next
returns-in-Record-clause-next g c =
    let most : c.args.self.now.count ≤ 10000000 = c.args.self.now.few in
    let few : c.args.self.now.count < 10000000 = omega arith in
    let found = rw c.in-Record.is at c.in_ok-len.ensures.ok in
    record { limit = refl; count = refl; faults = c.in_ok-len.ensures.faults; input = advances _ _ _ _ _ _ _ _ _ c.consume.ensures.bytes c.read_line.ensures.read (λ more can. (few, found.valid, found.first more can)); waits = λ is. absurd cc }
