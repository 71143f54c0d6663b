-- Outputs, one after another.
use Rattle.rpg_paper.specs.Form.{line_of}
use Rattle.std.proofs.Common.{◌≡◌, ℕ, List, [], ◌∷◌, ◌++◌, Option, Some, refl, sym, ap, ◌∙◌, subst, append_assoc, append-nil}
use Rattle.std.specs.Ordering.{nat_cmp}
use Rattle.rpg_paper.proofs.Papers.{bytes_from-append}
use Rattle.rpg_paper.specs.Paper.{Position, Placed, bytes_from, last_position_from}
use Rattle.rpg_program.specs.Effect.{Effect, quiet, then_go, go_on, after_output}
use Rattle.rpg_program.specs.Put.{Bytes, Held, IsDone, IsLeft, disk_bytes, on_paper, with_output}
use Rattle.rpg_program.specs.Ends.{End, Continues, Halt}
use Rattle.rpg_program.specs.Ended.{Ended, ends_with, on_data}
use Rattle.rpg_program.specs.World.{Data, World}

-- the line placed last of two lists
pub end_from-lines : (last : Option Position) (xs ys : List Placed) → last_position_from last (xs ++ ys) ≡ last_position_from (last_position_from last xs) ys
end_from-lines last [] ys = refl
end_from-lines last (x ∷ xs) ys = end_from-lines (Some x.at) xs ys

pub disk-append : (xs ys : List (List ℕ)) → disk_bytes (xs ++ ys) ≡ disk_bytes xs ++ disk_bytes ys
disk-append [] ys = refl
disk-append (text ∷ xs) ys = ap (λ z. text ++ 10 ∷ z) (disk-append xs ys) ∙ sym (append_assoc text (10 ∷ disk_bytes xs) (disk_bytes ys))

bytes_are : (p q : Bytes) → p.print ≡ q.print → p.disk ≡ q.disk → p ≡ q
bytes_are p q h g = ap (λ x. record { print = x; disk = p.disk }) h ∙ ap (λ x. record { print = q.print; disk = x }) g

-- two outputs add up
pub output_both : (previous : Option Position) (xs ys : List Placed) (rs ss : List (List ℕ)) (p : Bytes) →
    with_output (last_position_from previous xs) ys ss (with_output previous xs rs p) ≡ with_output previous (xs ++ ys) (rs ++ ss) p
output_both previous xs ys rs ss p = bytes_are _ _
    (append_assoc p.print (bytes_from previous xs) (bytes_from (last_position_from previous xs) ys) ∙ ap (λ z. p.print ++ z) (sym (bytes_from-append previous xs ys)))
    (append_assoc p.disk (disk_bytes rs) (disk_bytes ss) ∙ ap (λ z. p.disk ++ z) (sym (disk-append rs ss)))

left_both : (previous : Option Position) (one next : Effect nat_cmp) (p q r : Bytes) (v u : Held) (e : End) →
    IsLeft previous one p Continues v q → IsLeft (last_position_from previous one.lines) next q e u r → IsLeft previous (after_output one next) p e u r
left_both previous one next p q r v u e a b =
    let ends = end_from-lines previous one.lines next.lines in
    record {
      ending = b.ending;
      world = ap (λ x. on_paper x u.world) ends ∙ b.world;
      last = b.last ∙ ap line_of (sym ends);
      bytes = b.bytes ∙ ap (with_output (last_position_from previous one.lines) next.lines next.records) a.bytes ∙ output_both previous one.lines next.lines one.records next.records p;
    }

-- the one went on, and then the other was done
pub then_done : (one go : World nat_cmp → Effect nat_cmp) (w v u : Held) (p q r : Bytes) (e : End) →
    IsDone one w p Continues v q → IsDone go v q e u r → IsDone (λ x. then_go (one x) go) w p e u r
then_done one go w v u p q r e h g = record {
  following = λ previous l.
      let first = one (on_paper previous w.world) in
      let a = h.following previous l in
      let mid = last_position_from previous first.lines in
      let b : IsLeft mid (go first.world) q e u r = subst (λ (x : World nat_cmp). IsLeft mid (go x) q e u r) a.world (g.following mid a.last) in
      subst (λ (x : End). IsLeft previous (go_on x first go) p e u r) a.ending (left_both previous first (go first.world) p q r v u e a b);
}

-- the one halted
pub halts_done : (one go : World nat_cmp → Effect nat_cmp) (w v : Held) (p q : Bytes) (k : ℕ) →
    IsDone one w p (Halt k) v q → IsDone (λ x. then_go (one x) go) w p (Halt k) v q
halts_done one go w v p q k h = record {
  following = λ previous l.
      let first = one (on_paper previous w.world) in
      let a = h.following previous l in
      subst (λ (x : End). IsLeft previous (go_on x first go) p (Halt k) v q) a.ending a;
}

-- nothing is output
pub quiet_done : (f : World nat_cmp → World nat_cmp) (e : End) (w v : Held) (q : Bytes) → v.last ≡ w.last →
    ((previous : Option Position) → on_paper previous v.world ≡ f (on_paper previous w.world)) → IsDone (λ x. quiet e (f x)) w q e v q
quiet_done f e w v q l h = record {
  following = λ previous k. record {
    ending = refl;
    world = h previous;
    last = l ∙ k;
    bytes = bytes_are _ _ (sym (append-nil q.print)) (sym (append-nil q.disk));
  };
}

-- what is done to the data alone is done whatever was placed before
pub data_done : (f : Data nat_cmp → Ended nat_cmp) (e : End) (w v : Held) (q : Bytes) → v.last ≡ w.last → v.world.paper ≡ w.world.paper →
    ends_with e v.world.data ≡ f w.world.data → IsDone (on_data f) w q e v q
data_done f e w v q l paper is = record {
  following = λ previous k. record {
    ending = ap (λ (o : Ended nat_cmp). o.ending) is;
    world = λ i. on_paper previous (record { «data» = (is i).data; paper = paper i });
    last = l ∙ k;
    bytes = bytes_are _ _ (sym (append-nil q.print)) (sym (append-nil q.disk));
  };
}
