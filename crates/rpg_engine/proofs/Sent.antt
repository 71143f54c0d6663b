-- What went out of all that was output for a file, and what waits.
use Rattle.std.proofs.Common.{◌≡◌, ℕ, ◌+◌, ◌<◌, List, [], ◌++◌, length, take, Option, refl, sym, ap, ◌∙◌, subst, append_assoc, append-nil, arith, length-append}
use Rattle.std.proofs.Math.Seq.{take-length}
use Rattle.std.proofs.lemmas.List.{take-append-le}
use Rattle.std.specs.Io.KnownBytes.{Appends}
use Rattle.std.specs.declared.cmp.Ordering.{Ordering}
use Rattle.std.specs.declared.cmp.Ordering.TheVariants.{Less, Equal, Greater}
use Rattle.std.proofs.KnownBytes.{Appends-nil, Appends-trans}
use Rattle.rpg_files.specs.Sending.{AppendsFirst, AppendsPrefix}
use Rattle.rpg_engine.specs.Reporting.{HasUpTo}
use Rattle.rpg_engine.specs.Sending.{FileState, GoesOut, IsFileAfterFault}
use Rattle.rpg_engine.proofs.Bytes.{BeginsWith, front_sent, part_sent}

-- bytes begin with themselves
pub begins_whole : (bytes : List ℕ) → BeginsWith bytes bytes
begins_whole bytes = record { more = []; is = sym (append-nil bytes) }

-- a file has had a first part of all these bytes, which was counted, and the others wait; its writer hasn't failed
pub record IsSent (start now : FileState) (waiting all : List ℕ) : Type 0 where
  pub gone : List ℕ
  pub out : Appends start.has now.has gone
  pub order : gone ++ waiting ≡ all
  pub count : now.sent ≡ length gone
  pub faults : now.faults ≡ start.faults

-- as a run begins
pub none_gone_yet : (start : FileState) (waiting : List ℕ) → start.sent ≡ 0 → waiting ≡ [] → IsSent start start waiting []
none_gone_yet start waiting unsent none = record { gone = []; out = Appends-nil start.has; order = none; count = unsent; faults = refl }

module _ (start now : FileState) (waiting all : List ℕ) (s : IsSent start now waiting all) where
  -- bytes were put after the others
  pub put_more : (later bytes : List ℕ) → later ≡ waiting ++ bytes → IsSent start now later (all ++ bytes)
  put_more later bytes is = record {
    gone = s.gone;
    out = s.out;
    order = ap (λ (x : List ℕ). s.gone ++ x) is ∙ sym (append_assoc s.gone waiting bytes) ∙ ap (λ (x : List ℕ). x ++ bytes) s.order;
    count = s.count;
    faults = s.faults;
  }

  -- some of those that waited went out
  pub goes_out : (next : FileState) (left : List ℕ) → GoesOut now next waiting left → IsSent start next left all
  goes_out next left g = record {
    gone = s.gone ++ g.front;
    out = Appends-trans start.has now.has next.has s.gone g.front s.out g.out;
    order = append_assoc s.gone g.front left ∙ ap (λ (x : List ℕ). s.gone ++ x) g.order ∙ s.order;
    count = let long = length-append s.gone g.front in omega (arith, g.count, s.count, long);
    faults = g.faults ∙ s.faults;
  }

  -- all went out
  pub all_sent : waiting ≡ [] → Appends start.has now.has all
  all_sent none = subst (λ (x : List ℕ). Appends start.has now.has x) (sym (append-nil s.gone) ∙ ap (λ (x : List ℕ). s.gone ++ x) (sym none) ∙ s.order) s.out

  -- bytes that begin with all these begin with those that went out
  after_gone : (whole : List ℕ) → BeginsWith whole all → BeginsWith whole (s.gone ++ waiting)
  after_gone whole begins = record { more = begins.more; is = begins.is ∙ ap (λ (x : List ℕ). x ++ begins.more) (sym s.order) }

  -- of them the file has a first part
  pub prefix_sent : (whole : List ℕ) → BeginsWith whole all → AppendsPrefix start.has now.has whole
  prefix_sent whole begins =
      let front = after_gone whole begins in
      (length s.gone, front_sent start.has now.has whole s.gone (record { more = waiting ++ front.more; is = front.is ∙ append_assoc s.gone waiting front.more }) s.out)

  -- a first part of what waited went out
  first_sent : (c : Option (List ℕ)) (whole : List ℕ) (n : ℕ) → BeginsWith whole all → AppendsFirst now.has c n waiting → AppendsFirst start.has c (now.sent + n) whole
  first_sent c whole n begins part =
      subst (λ (k : ℕ). AppendsFirst start.has c (k + n) whole) (sym s.count) (part_sent start.has now.has c whole s.gone waiting n (after_gone whole begins) s.out part)

  -- and no more than all that was output
  strictly_sent : (n : ℕ) → n < length waiting → now.sent + n < length all
  strictly_sent n few = let long = length-append s.gone waiting in let same = ap length s.order in omega (arith, s.count, long, same, few)

  -- all of it
  pub rest_sent : (c : Option (List ℕ)) → Appends now.has c waiting → Appends start.has c all
  rest_sent c out = subst (λ (x : List ℕ). Appends start.has c x) s.order (Appends-trans start.has now.has c s.gone waiting s.out out)

  pub waiting_sent : (c : Option (List ℕ)) (whole : List ℕ) → BeginsWith whole all → Appends now.has c waiting → AppendsPrefix start.has c whole
  waiting_sent c whole begins out =
      (length (s.gone ++ waiting), front_sent start.has c whole (s.gone ++ waiting) (after_gone whole begins) (Appends-trans start.has now.has c s.gone waiting s.out out))

  -- where nothing more went out
  pub still_sent : (c : Option (List ℕ)) (whole : List ℕ) → BeginsWith whole all → c ≡ now.has → AppendsPrefix start.has c whole
  still_sent c whole begins same = subst (λ (x : Option (List ℕ)). AppendsPrefix start.has x whole) (sym same) (prefix_sent whole begins)

  -- ---- where a writer failed over what waited

  -- its own
  pub counted_sent : (count : ℕ) (next : FileState) (whole : List ℕ) → BeginsWith whole all → IsFileAfterFault Equal count now next waiting → AppendsFirst start.has next.has count whole
  counted_sent count next whole begins left = subst (λ (k : ℕ). AppendsFirst start.has next.has k whole) (sym left.counted) (first_sent next.has whole left.taken begins left.out)

  pub left_parts : (o : Ordering) (count : ℕ) (next : FileState) (whole : List ℕ) → BeginsWith whole all → IsFileAfterFault o count now next waiting → AppendsPrefix start.has next.has whole
  left_parts Less count next whole begins left = waiting_sent next.has whole begins left.out
  left_parts Equal count next whole begins left = (count, counted_sent count next whole begins left)
  left_parts Greater count next whole begins left = still_sent next.has whole begins (ap (λ (f : FileState). f.has) left)

  pub left_up_to : (o : Ordering) (count : ℕ) (next : FileState) → IsFileAfterFault o count now next waiting → HasUpTo o count start.has next.has all
  left_up_to Less count next left = rest_sent next.has left.out
  left_up_to Equal count next left =
      (counted_sent count next all (begins_whole all) left, subst (λ (k : ℕ). k < length all) (sym left.counted) (strictly_sent left.taken left.part))
  left_up_to Greater count next left = still_sent next.has all (begins_whole all) (ap (λ (f : FileState). f.has) left)

-- what stood there before is the front of what stands there now
pub front_is : (old new more : List ℕ) (n : ℕ) → new ≡ old ++ more → n ≡ length old → take n new ≡ old
front_is old new more n is count = ap (λ (k : ℕ). take k new) count ∙ ap (take (length old)) is ∙ take-append-le (length old) old more (omega arith) ∙ take-length old
