-- What the proof of `run_state::members` needs beside the tactics.
use Rattle.std.proofs.Common.{[], ◌∷◌, ap, arith, length, length-append, subst, sym}
use Rattle.annex_base.specs.Lists.{Each}
use Rattle.step_rules.specs.Members.{IsBounded}
use Rattle.step_rules.proofs.Places.{each_more}
use Rattle.step_rules.proofs.Starting.{member_more, offset_low}
use Rattle.step_rules.proofs.run_state.members.Goals as goal

pub start-requires-clause-near : goal.start-requires-clause-near
start-requires-clause-near c = offset_low c.args.repos.now c.loop-number.number c.requires.set_up

pub loop-number-preserved : goal.loop-number-preserved
loop-number-preserved c =
    let was = c.loop-number.all.items in
    let x = c.in_ok-start.field-0 in
    let more = length-append was (x ∷ []) in
    let long = ap length c.in_ok-push.ensures.items in
    let count = c.loop-number.invariant.count in
    record {
      count = omega (arith, more, long, count);
      members = λ r m at s same number.
          member_more was c.push.new.self.items c.args.repos.now c.loop-number.number x c.in_ok-push.ensures.items count c.loop-number.invariant.members c.in_ok-start.ensures.member r m at s same number;
      bounded = subst (Each (IsBounded (length c.args.repos.now) 0)) (sym c.in_ok-push.ensures.items)
          (each_more (IsBounded (length c.args.repos.now) 0) was x c.loop-number.invariant.bounded c.in_ok-start.ensures.bounded);
    }
