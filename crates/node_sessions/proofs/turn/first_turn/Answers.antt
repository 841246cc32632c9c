-- One session more has nothing to do; or none has.
use Rattle.std.proofs.Common.{◌<◌, length, refl, sym, ap, ◌∙◌, arith}
use Rattle.std.proofs.lemmas.Option.{slice_get_read, slice_get_within}
use Rattle.node_sessions.specs.Turns.{turn_at}
use Rattle.node_sessions.proofs.Turning.{idle_more}
use Rattle.node_sessions.proofs.turn.first_turn.Goals as goal

pub loop-at-preserved : goal.loop-at-preserved
loop-at-preserved c =
    let xs = c.args.sessions.now in
    let y = c.index-sessions-at.result in record {
      same = c.turn_of.ensures.same ∙ c.loop-at.invariant.same;
      before = idle_more c.args.ends.now xs c.loop-at.at y (slice_get_read xs (length xs) c.loop-at.at y refl c.loop-at-test.true c.index-sessions-at.is)
          (ap (λ links. turn_at links y) (sym c.loop-at.invariant.same) ∙ sym c.turn_of.ensures.turn ∙ c.in_default.is) c.loop-at.invariant.before;
    }

pub returns-clause-first : goal.returns-clause-first
returns-clause-first c = λ i x at.
    let within : i < length c.args.sessions.now = slice_get_within c.args.sessions.now i x at in c.loop-at.invariant.before i x (omega (arith, within, c.loop-at-test.false)) at
