-- ERROR closes the connection.
use Rattle.std.proofs.Common.{refl, ap, ◌∙◌}
use Rattle.std.specs.Prelude.{None, true, false}
use Rattle.run_data.specs.declared.entry.EntryKind.TheVariants.{Close}
use Rattle.session_state.specs.declared.state.SessionState.{SessionState}
use Rattle.p2p_wire.specs.declared.message.Message.TheVariants as messages
use Rattle.node_model.specs.Look.{failed_in}
use Rattle.session_state.specs.declared.incoming.Incoming.TheVariants as incoming
use Rattle.session_state.specs.declared.step.Step.{Step}
use Rattle.session_state.proofs.Making.{quiet}
use Rattle.session_state.proofs.Stepping.{gives_up_so}
use Rattle.session_state.proofs.state.SessionState.give_up.Goals as goal

pub returns-clause-goes : goal.returns-clause-goes
returns-clause-goes c = λ x text contents parts records faults here agrees.
    gives_up_so x text c.args.self.now c.reset.new.self c.args.table.now c.reset.new.table contents parts records faults _ here agrees c.reset.ensures.table c.reset.ensures.session
    (c.closes.ensures ∙ (λ j. record { kind = (c.close_kind.ensures ∙ ap (λ (s : SessionState). Close s.place.peer s.place.slot false) c.reset.ensures.session) j; reply = None; close = true }))

pub returns-clause-calls : goal.returns-clause-calls
returns-clause-calls c = λ x text contents parts failing.
    quiet x (incoming.Message (messages.Error text)) c.args.self.now c.args.table.now contents parts failing _ (ap (λ (t : Step). failed_in t.kind) c.closes.ensures ∙ ap failed_in c.close_kind.ensures) (λ h. refl)
