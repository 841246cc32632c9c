-- What isn't expected closes the connection.
use Rattle.std.proofs.Common.{ap, ◌∙◌}
use Rattle.std.specs.Prelude.{Some}
use Rattle.run_data.specs.declared.entry.EntryKind.TheVariants.{Close}
use Rattle.p2p_wire.specs.declared.message.Message.TheVariants.{Error}
use Rattle.session_state.specs.declared.state.SessionState.{SessionState}
use Rattle.std.specs.Prelude.{true, false}
use Rattle.node_model.specs.Look.{failed_in}
use Rattle.session_state.specs.declared.step.Step.{Step}
use Rattle.session_state.proofs.Making.{unexpected_makes}
use Rattle.session_state.proofs.Stepping.{refuses_so}
use Rattle.session_state.proofs.state.SessionState.refuse.Goals as goal

pub returns-clause-goes : goal.returns-clause-goes
returns-clause-goes c = λ x i contents parts records faults here un agrees.
    refuses_so x i c.args.self.now c.reset.new.self c.args.table.now c.reset.new.table contents parts records faults _ here un agrees c.reset.ensures.table c.reset.ensures.session
    (c.closes.ensures ∙ (λ j. record { kind = (c.close_kind.ensures ∙ ap (λ (s : SessionState). Close s.place.peer s.place.slot false) c.reset.ensures.session) j; reply = Some (Error (c.in_ok-text.ensures j)); close = true }))

pub returns-clause-calls : goal.returns-clause-calls
returns-clause-calls c = λ x i contents parts failing un.
    unexpected_makes x i c.args.self.now c.args.table.now contents parts failing _ (ap (λ (t : Step). failed_in t.kind) c.closes.ensures ∙ ap failed_in c.close_kind.ensures) un
