-- The first session that has something to do, or none.
use Rattle.std.proofs.Common.{◌≡◌, List, None, ◌∙◌, subst}
use Rattle.p2p_server.specs.declared.session.Session.{Session}
use Rattle.node_sessions.specs.Moments.{ServesAmong}
use Rattle.node_sessions.specs.Sessions.{Every}
use Rattle.node_sessions.specs.Turns.{IsFirstAt, turn_at}
use Rattle.node_sessions.proofs.Among.{among_bars, among_contents, among_fed, among_filled, among_judged, among_kind, among_left_parts, among_member, among_own, among_parts, among_piece, among_places, among_same, among_steps, among_there}
use Rattle.node_sessions.proofs.Called.{among_calls, calls_same, makes_none, none_makes}
use Rattle.node_sessions.proofs.Stepping.{none_steps}
use Rattle.node_sessions.proofs.Turning.{IdleBelow}
use Rattle.node_sessions.proofs.sessions.Sessions.step.Given as given
use Rattle.node_sessions.proofs.sessions.Sessions.step.Goals as goal

-- what was served, among the sessions
whole : (g : given.Over) (c : goal.In_ok-served-in-Some g)
    → ServesAmong c.args.ends.now c.args.clock c.args.number c.in-Some.first.at c.args.self.now c.serve.new.sessions.items c.args.table.now c.serve.new.table
    (g.K.Keeper.contents c.args.keeper.now) (g.K.Keeper.contents c.serve.new.keeper) (g.K.Keeper.parts c.args.keeper.now) (g.K.Keeper.parts c.serve.new.keeper) (g.K.Keeper.records c.args.keeper.now) (g.K.Keeper.records c.serve.new.keeper) (g.K.Keeper.faults c.args.keeper.now) (g.K.Keeper.faults c.serve.new.keeper) c.in_ok-served-in-Some.served
whole g c = among_same _ _ _ _ _ _ _ _ _ _ _ _ _ _ _ _ _ _ _ c.first_turn.ensures.same c.self.view_is c.in_ok-served-in-Some.ensures.serves

pub returns-in-None-clause-step : goal.returns-in-None-clause-step
returns-in-None-clause-step g c = λ s st k sees.
    none_steps c.frames_wait_at_ends.ensures c.args.ends.now c.args.table.now _ _ c.args.clock c.args.number c.args.self.now s st k c.requires.there
    (subst (λ (xs : List Session). Every (λ x. turn_at c.args.ends.now x ≡ None) xs) (c.deref.ensures.value ∙ c.self.view_is) c.in-None.ensures.first) sees

pub returns-in_ok-served-in-Some-clause-step : goal.returns-in_ok-served-in-Some-clause-step
returns-in_ok-served-in-Some-clause-step g c = λ s st k sees.
    among_steps c.frames_wait_at_ends.ensures _ _ _ _ _ _ _ _ _ _ _ _ _ _ _ _ _ (whole g c) c.requires.there
    (subst (λ (xs : List Session). IdleBelow c.args.ends.now xs c.in-Some.first.at) (c.deref.ensures.value ∙ c.self.view_is) c.in-Some.ensures.first.before) c.requires.owns s st k sees

pub returns-in_ok-served-in-Some-clause-owns : goal.returns-in_ok-served-in-Some-clause-owns
returns-in_ok-served-in-Some-clause-owns g c = among_own _ _ _ _ _ _ _ _ _ _ _ _ _ _ _ _ _ (whole g c) c.requires.owns

pub returns-in_ok-served-in-Some-clause-places : goal.returns-in_ok-served-in-Some-clause-places
returns-in_ok-served-in-Some-clause-places g c = among_places _ _ _ _ _ _ _ _ _ _ _ _ _ _ _ _ _ (whole g c)

pub returns-in_ok-served-in-Some-clause-there : goal.returns-in_ok-served-in-Some-clause-there
returns-in_ok-served-in-Some-clause-there g c = among_there _ _ _ _ _ _ _ _ _ _ _ _ _ _ _ _ _ (whole g c)

pub returns-in_ok-served-in-Some-clause-filled : goal.returns-in_ok-served-in-Some-clause-filled
returns-in_ok-served-in-Some-clause-filled g c = among_filled _ _ _ _ _ _ _ _ _ _ _ _ _ _ _ _ _ (whole g c) c.requires.owns

pub returns-in_ok-served-in-Some-clause-parts : goal.returns-in_ok-served-in-Some-clause-parts
returns-in_ok-served-in-Some-clause-parts g c = among_parts _ _ _ _ _ _ _ _ _ _ _ _ _ _ _ _ _ (whole g c)

pub returns-in_ok-served-in-Some-clause-fed : goal.returns-in_ok-served-in-Some-clause-fed
returns-in_ok-served-in-Some-clause-fed g c = among_fed c.others_leave_it.ensures.fed _ _ _ _ _ _ _ _ _ _ _ _ _ _ _ _ _ (whole g c) c.requires.owns

pub returns-in_ok-served-in-Some-clause-judged : goal.returns-in_ok-served-in-Some-clause-judged
returns-in_ok-served-in-Some-clause-judged g c = among_judged _ _ _ _ _ _ _ _ _ _ _ _ _ _ _ _ _ (whole g c) c.requires.owns

pub returns-in_ok-served-in-Some-clause-pieces : goal.returns-in_ok-served-in-Some-clause-pieces
returns-in_ok-served-in-Some-clause-pieces g c = among_piece _ _ _ _ _ _ _ _ _ _ _ _ _ _ _ _ _ (whole g c) c.requires.owns

pub returns-in_ok-served-in-Some-clause-among : goal.returns-in_ok-served-in-Some-clause-among
returns-in_ok-served-in-Some-clause-among g c = among_member _ _ _ _ _ _ _ _ _ _ _ _ _ _ _ _ _ (whole g c)

pub returns-in_ok-served-in-Some-clause-kind : goal.returns-in_ok-served-in-Some-clause-kind
returns-in_ok-served-in-Some-clause-kind g c = among_kind _ _ _ _ _ _ _ _ _ _ _ _ _ _ _ _ _ (whole g c)

pub returns-in_ok-served-in-Some-clause-bars : goal.returns-in_ok-served-in-Some-clause-bars
returns-in_ok-served-in-Some-clause-bars g c = among_bars _ _ _ _ _ _ _ _ _ _ _ _ _ _ _ _ _ (whole g c)

pub returns-in-None-clause-calls : goal.returns-in-None-clause-calls
returns-in-None-clause-calls g c = λ s st k sees.
    none_makes c.frames_wait_at_ends.ensures c.args.ends.now c.args.table.now _ _ c.args.clock c.args.number c.args.self.now _ s st k c.requires.there
    (subst (λ (xs : List Session). Every (λ x. turn_at c.args.ends.now x ≡ None) xs) (c.deref.ensures.value ∙ c.self.view_is) c.in-None.ensures.first) sees

pub returns-in_ok-served-in-Some-clause-contents : goal.returns-in_ok-served-in-Some-clause-contents
returns-in_ok-served-in-Some-clause-contents g c = among_contents _ _ _ _ _ _ _ _ _ _ _ _ _ _ _ _ _ (whole g c)

pub returns-in_ok-served-in-Some-clause-left_parts : goal.returns-in_ok-served-in-Some-clause-left_parts
returns-in_ok-served-in-Some-clause-left_parts g c = among_left_parts _ _ _ _ _ _ _ _ _ _ _ _ _ _ _ _ _ (whole g c) c.requires.owns

pub returns-in-None-clause-left : goal.returns-in-None-clause-left
returns-in-None-clause-left g c = (makes_none _).left

pub returns-in_ok-served-in-Some-clause-calls : goal.returns-in_ok-served-in-Some-clause-calls
returns-in_ok-served-in-Some-clause-calls g c = λ s st k sees.
    among_calls c.frames_wait_at_ends.ensures c.args.ends.now c.args.clock c.args.number c.in-Some.first c.args.self.now c.args.table.now _ _ _ _ c.in_ok-served-in-Some.served _ _
    (calls_same _ _ _ _ _ _ _ _ _ _ _ _ _ _ _ c.first_turn.ensures.same c.self.view_is c.in_ok-served-in-Some.ensures.calls) c.requires.there
    (subst (λ (xs : List Session). IsFirstAt c.args.ends.now xs c.in-Some.first) (c.deref.ensures.value ∙ c.self.view_is) c.in-Some.ensures.first) c.requires.owns s st k sees

pub returns-in_ok-served-in-Some-clause-left : goal.returns-in_ok-served-in-Some-clause-left
returns-in_ok-served-in-Some-clause-left g c = c.in_ok-served-in-Some.ensures.calls.makes.left
