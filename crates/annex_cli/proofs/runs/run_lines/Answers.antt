-- One line more, and after the last none is left.
use Rattle.std.proofs.Common.{rules, ◌+◌, ◌<◌, ◌≤◌, true, [], List, ◌≡◌, length, drop, Err, sym, ap, ◌∙◌, subst, arith}
use Rattle.fleet_run.specs.Stored.{store_view}
use Rattle.script_commands.specs.declared.command.Command.{Command}
use Rattle.fleet_run.specs.declared.FleetStop.TheVariants.{Full}
use Rattle.script_answers.specs.Runs.{IsRunOf}
use Rattle.annex_cli.specs.Doing.{HasDone}
use Rattle.annex_cli.proofs.RunLemmas.{cut_here, done_at_first, done_before, done_next, few_done, may_be_done, none_left, stop_is}
use Rattle.annex_cli.proofs.runs.run_lines.Goals as goal

pub loop-command-init : goal.loop-command-init
loop-command-init g c =
    subst (λ (cs : List Command). HasDone (λ k. store_view (g.K.Keeper.contents k) (g.K.Keeper.parts k) (g.K.Keeper.failing k) (g.K.Keeper.faults k)) cs cs c.args.fleet.now) (sym c.lines-commands.ensures)
    (done_at_first _ c.args.script.now c.scripts_are_built_or_not.ensures.each c.args.fleet.now c.requires.built c.requires.stand c.requires.stands c.requires.driven)

pub line-requires : goal.line-requires
line-requires g c =
    let all : List Command = c.lines-commands.result.now in
    let i = c.loop-command.command-index in
    let within : i < length all = omega arith in
    let before = done_before _ all i c.command-item.result c.loop-command.fleet within c.command-item.is c.loop-command.invariant in
    let done = few_done _ all c.command-item.result (drop (i + 1) all) c.loop-command.fleet before in
    let same : length all ≡ length c.args.script.now = ap length c.lines-commands.ensures in
    let few = c.requires.few in
    (search rules, (may_be_done _ all c.command-item.result (drop (i + 1) all) c.loop-command.fleet before, (omega (arith, done, same, few), before.driven)))

pub loop-command-preserved : goal.loop-command-preserved
loop-command-preserved g c =
    let all : List Command = c.lines-commands.result.now in
    let i = c.loop-command.command-index in
    let within : i < length all = omega arith in
    let before = done_before _ all i c.command-item.result c.loop-command.fleet within c.command-item.is c.loop-command.invariant in
    done_next _ all c.command-item.result (drop (i + 1) all) c.loop-command.fleet before c.only_waits_take_time.ensures c.lines_wait_as_long.ensures c.runs_are_cut_where_histories_are_full.ensures.marks c.line.new.self c.in_ok-line.ensures.within c.in_ok-line.ensures.ok c.in_ok-line.ensures.driven

pub returns-in_err-line-clause-cut : goal.returns-in_err-line-clause-cut
returns-in_err-line-clause-cut g c = λ r stops.
    let all : List Command = c.lines-commands.result.now in
    let i = c.loop-command.command-index in
    let within : i < length all = omega arith in
    let before = done_before _ all i c.command-item.result c.loop-command.fleet within c.command-item.is c.loop-command.invariant in
    let full = stop_is c.from_residual.result c.in_err-line.field-0.0 (Full r) c.from_residual.ensures.1 stops in
    subst (λ (cs : List Command). IsRunOf cs true c.line.new.self.run) c.lines-commands.ensures
    (cut_here _ all c.command-item.result (drop (i + 1) all) c.loop-command.fleet before r c.line.new.self (c.line.ensures.full r (c.in_err-line.was ∙ ap Err full)))

pub returns-clause-done : goal.returns-clause-done
returns-clause-done g c =
    let all : List Command = c.lines-commands.result.now in
    let past : length all ≤ c.loop-command.command-index = omega arith in
    subst (λ (cs : List Command). HasDone (λ k. store_view (g.K.Keeper.contents k) (g.K.Keeper.parts k) (g.K.Keeper.failing k) (g.K.Keeper.faults k)) cs [] c.loop-command.fleet) c.lines-commands.ensures
    (none_left _ all c.loop-command.command-index c.loop-command.fleet past c.loop-command.invariant)
