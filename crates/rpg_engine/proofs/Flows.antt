-- A run under way, with what its writers have had of its output and what waits at the job.
use Rattle.std.proofs.Common.{◌≡◌, ℕ, ◌+◌, List, [], max, false, Option, None, sym, ap, ◌∙◌, subst}
use Rattle.rpg_cycle.specs.Ends.{PhaseEnd, Continues}
use Rattle.rpg_cycle.specs.Job.{AtWork}
use Rattle.rpg_cycle_records.specs.Earlier.{left_by}
use Rattle.rpg_cycle_records.specs.Waiting.{unread}
use Rattle.rpg_program.specs.Put.{Bytes}
use Rattle.rpg_machine.specs.Config.{Output}
use Rattle.rpg_machine.specs.Running.{no_bytes}
use Rattle.rpg_paper.specs.Paper.{last_position}
use Rattle.rpg_engine.specs.Outputs.{bytes_for}
use Rattle.rpg_engine.specs.Reporting.{bytes_of}
use Rattle.rpg_engine.specs.Sending.{SendsFront, States}
use Rattle.rpg_engine.specs.declared.files.OutputFile.{OutputFile}
use Rattle.rpg_engine.proofs.Bytes.{put_for, put_on, put_with}
use Rattle.rpg_engine.proofs.Outputs.{none_for}
use Rattle.rpg_engine.proofs.Sent.{IsSent, goes_out, none_gone_yet, put_more}
use Rattle.rpg_engine.proofs.Streams.{Streams, output_is, stream_begins, stream_continues, stream_sends}
use Rattle.rpg_engine.proofs.Taking.{Source, TakesNext}

-- each file has had a first part of all that was output for it since the files stood so, and the rest waits; no writer has failed
pub record Flows (first : AtWork) (given others : Option (List ℕ)) (job : AtWork) (a b : Source) (cycles most : ℕ) (start now : States) : Type 0 where
  pub streams : Streams first given others job a b cycles most
  pub sent : (file : OutputFile) → IsSent (start file) (now file) (bytes_for file job.output) (bytes_for file (bytes_of streams.out))

pub flow_begins : (first : AtWork) (a b : Source) (start : States)
    → first.left ≡ left_by first.program [] → first.inputs ≡ unread → first.last ≡ None → first.output ≡ no_bytes
    → a.input.buffered ≡ [] → a.input.ended ≡ false → a.count ≡ 0 → b.input.buffered ≡ [] → b.input.ended ≡ false → b.count ≡ 0
    → ((file : OutputFile) → (start file).sent ≡ 0) → Flows first a.input.remaining b.input.remaining first a b 0 0 start start
flow_begins first a b start left fresh last empty front unended count front_too unended_too count_too unsent =
    let begins = stream_begins first a b left fresh last front unended count front_too unended_too count_too in
    record {
      streams = begins.0;
      sent = λ file. subst (λ (o : Output). IsSent (start file) (start file) (bytes_for file first.output) (bytes_for file (bytes_of o))) (sym begins.1)
          (subst (λ (all : List ℕ). IsSent (start file) (start file) (bytes_for file first.output) all) (sym (none_for file))
          (none_gone_yet (start file) (bytes_for file first.output) (unsent file) (ap (bytes_for file) empty ∙ none_for file)));
    }

module _ (first job : AtWork) (given others : Option (List ℕ)) (a b : Source) (cycles most : ℕ) (start now : States) (f : Flows first given others job a b cycles most start now) where
  -- some of what waited went out
  pub flow_sends : (mid : AtWork) (later : States) → SendsFront job mid now later → Flows first given others mid a b cycles most start later
  flow_sends mid later sends =
      let same = stream_sends first job mid given others a b cycles most f.streams sends.rest in
      record {
        streams = same.0;
        sent = λ file. subst (λ (o : Output). IsSent (start file) (later file) (bytes_for file mid.output) (bytes_for file (bytes_of o))) (sym same.1)
            (goes_out (start file) (now file) (bytes_for file job.output) (bytes_for file (bytes_of f.streams.out)) (f.sent file) (later file) (bytes_for file mid.output) (sends.out file));
      }

  -- after one more cycle: what it was, and what went out and waits of all that was output
  pub record IsCycled (mid : AtWork) (a' b' : Source) : Type 0 where
    pub ending : PhaseEnd
    pub takes : TakesNext f.streams.earlier (last_position f.streams.out.lines) job a b ending mid a' b'
    pub sent : (file : OutputFile) → IsSent (start file) (now file) (bytes_for file mid.output) (bytes_for file (put_with ending f.streams.out takes.does.out))

  pub cycled : (mid : AtWork) (a' b' : Source) → (e : PhaseEnd) × TakesNext f.streams.earlier (last_position f.streams.out.lines) job a b e mid a' b' → IsCycled mid a' b'
  cycled mid a' b' took = record {
    ending = took.0;
    takes = took.1;
    sent = λ file. subst (λ (all : List ℕ). IsSent (start file) (now file) (bytes_for file mid.output) all) (put_for file took.0 f.streams.out took.1.does.out)
        (put_more (start file) (now file) (bytes_for file job.output) (bytes_for file (bytes_of f.streams.out)) (f.sent file) (bytes_for file mid.output) _
        (output_is job mid f.streams.earlier f.streams.out took.1.x took.1.y took.0 took.1.does file));
  }

  pub flow_continues : (mid : AtWork) (a' b' : Source) (k : IsCycled mid a' b') (greater : ℕ) → k.ending ≡ Continues → greater ≡ max most mid.config.steps
      → Flows first given others mid a' b' (cycles + 1) greater start now
  flow_continues mid a' b' k greater on most_is =
      let more = stream_continues first job mid given others a b a' b' cycles most greater k.ending f.streams k.takes on most_is in
      record {
        streams = more.0;
        sent = λ file. subst (λ (o : Output). IsSent (start file) (now file) (bytes_for file mid.output) (bytes_for file (bytes_of o))) (sym more.1)
            (subst (λ (bytes : Bytes). IsSent (start file) (now file) (bytes_for file mid.output) (bytes_for file bytes)) (put_on f.streams.out k.takes.does.out k.ending on) (k.sent file));
      }
