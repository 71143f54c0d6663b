use Rattle.std.proofs.Common.{◌≡◌, ◌+◌, ◌-◌, ◌/◌, ◌^◌, refl, sym, ap, ◌∙◌, arith, replicate}
use borrow.Rule.Slice.PartMut.{put_mid}
use Rattle.rpg_edit.proofs.Fills.{length-mid, none_left, writes_fill}
use Rattle.rpg_edit.proofs.suppression.Pass.put_fill.Goals as goal

pub invariant_of-self : goal.invariant_of-self
invariant_of-self c =
    let self = c.args.self.now in
    let none : self.number.size / 10 ^ self.after ≡ 0 = sym self.is_rest ∙ c.requires.used_up.rest in
    let later : c.args.digits + self.after ≡ self.after + c.args.digits = omega arith in
    record {
      few = omega (arith, self.few, c.requires.digits, c.requires.room.room);
      is_rest = c.requires.used_up.rest ∙ sym (none_left self.number.size c.args.digits self.after none) ∙ ap (λ k. self.number.size / 10 ^ k) later;
    }

pub returns : goal.returns
returns c =
    let self = c.args.self.now in
    let out = c.args.out.now in
    let at = self.start - c.args.marks in
    let filled : c.fill.new.text ≡ replicate c.args.marks self.suppression.fill =
    c.fill.ensures ∙ ap (λ n. replicate n self.suppression.fill) (length-mid out c.args.marks self.start c.requires.room.room c.requires.room.within) in
    λ ms are. writes_fill ms c.args.marks self _ out _ c.requires.used_up c.requires.room.room c.requires.room.within are.count_is are.each are.last refl
    (ap (λ n. self.after + n) (sym are.digits_are)) refl refl (ap (put_mid at (self.start - at) out) filled)
