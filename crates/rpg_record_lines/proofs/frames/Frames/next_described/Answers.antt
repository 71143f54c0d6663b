use Rattle.std.proofs.Common.{length, arith, ◌≡◌, subst, List, ℕ}
use Rattle.rpg_record_lines.proofs.FrameLemmas.{described_read, described_short}
use Rattle.rpg_record_lines.specs.Cuts.{after_word, described_cut}
use Rattle.rpg_record_lines.specs.Inputs.{given_of, remaining_in}
use Rattle.rpg_record_lines.proofs.frames.Frames.next_described.Goals as goal

pub returns-then-bytes-length-clause-next : goal.returns-then-bytes-length-clause-next
returns-then-bytes-length-clause-next g c =
    let word = c.read_up_to.new.bytes.items in
    let most = c.args.self.now.most in
    let four : length word ≡ 4 = omega (arith, c.if-bytes-lt4.false, c.in_ok-read_up_to.ensures.within, c.len-bytes.ensures) in
    let cut = subst (λ (l : List ℕ). (rest : List ℕ) → described_cut most l rest ≡ after_word c.in-Ok.length rest) c.as_slice.ensures.value c.in-Ok.ensures.described in
    described_short most c.in-Ok.length c.len-bytes-2.result (remaining_in g.R.Read.remaining c.args.self.now.input) (remaining_in g.R.Read.remaining c.read_up_to.new.self)
    (remaining_in g.R.Read.remaining c.read_up_to-2.new.self) word c.read_up_to-2.new.bytes.items c.in_ok-read_up_to.ensures.front.0 four cut c.in_ok-read_up_to-2.ensures.front.0 (omega (arith, c.len-bytes-2.ensures))
    c.if-bytes-length.true

pub returns-clause-next : goal.returns-clause-next
returns-clause-next g c =
    let word = c.read_up_to.new.bytes.items in
    let most = c.args.self.now.most in
    let four : length word ≡ 4 = omega (arith, c.if-bytes-lt4.false, c.in_ok-read_up_to.ensures.within, c.len-bytes.ensures) in
    let cut = subst (λ (l : List ℕ). (rest : List ℕ) → described_cut most l rest ≡ after_word c.in-Ok.length rest) c.as_slice.ensures.value c.in-Ok.ensures.described in
    described_read most c.in-Ok.length (given_of c.args.self.now.input) (given_of c.read_up_to.new.self) (given_of c.read_up_to-2.new.self) (remaining_in g.R.Read.remaining c.args.self.now.input)
    (remaining_in g.R.Read.remaining c.read_up_to.new.self) (remaining_in g.R.Read.remaining c.read_up_to-2.new.self) word c.read_up_to-2.new.bytes.items c.in_ok-read_up_to.ensures.front.0 four cut
    c.in_ok-read_up_to-2.ensures.front.0 (omega (arith, c.if-bytes-length.false, c.len-bytes-2.ensures)) (omega (arith, c.in_ok-read_up_to-2.ensures.within)) c.in_ok-read_up_to.ensures.front.1
    c.in_ok-read_up_to-2.ensures.front.1
