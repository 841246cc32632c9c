-- What the report wants of a run: its entries are well formed, its clocks are within their bounds, and what the script shows is of
-- repositories that it declares.
use Rattle.std.proofs.Common.{◌≡◌, ℕ, ◌+◌, ◌≤◌, List, [], ◌∷◌, length, reverse, sym, subst, arith, length-append}
use Rattle.std.proofs.lemmas.List.{length-map, reverse-reverse}
use Rattle.annex_base.specs.Lists.{Each}
use Rattle.annex_base.proofs.Lists.{Each-both, Each-reverse, Each-weaker}
use Rattle.run_data.specs.Repos.{IsSetUp}
use Rattle.run_data.specs.declared.entry.Entry.{Entry}
use Rattle.run_data.specs.declared.entry.EntryKind.{EntryKind}
use Rattle.run_data.specs.declared.entry.EntryKind.TheVariants.{Crash, Log}
use Rattle.run_data.specs.declared.run.Run.{Run}
use Rattle.node_model.specs.SetUp.{SetUp}
use Rattle.run_model.specs.Run.{IsBounded, IsRun, IsSmall, RunPast, set_up}
use Rattle.script_commands.specs.declared.command.Command.{Command}
use Rattle.script_commands.specs.declared.command.Command.TheVariants as commands
use Rattle.script_commands.specs.declared.command.Showing.{Showing}
use Rattle.script_commands.specs.declared.command.Showing.TheVariants as showings
use Rattle.script_lang.specs.Context.{Context}
use Rattle.script_lang.specs.Script as script
use Rattle.script_lang.specs.Script.{context_with, no_context}
use Rattle.script_lang.specs.Preconditions.{AllStand, IsValidIn, IsValidShowing}
use Rattle.driver_model.specs.Logged.{LogsWell}
use Rattle.driver_script.specs.Lines.{declared_by, repos_of, view_of}
use Rattle.report_text.specs.Branches.{LogsLines}
use Rattle.report_text.specs.Walk.{IsAhead, IsOfKnown, IsWellFormed, SetsClock, ShowsKnown}

-- ---- the run

logs_is : (kind : EntryKind) (lines : List (List ℕ)) → LogsWell kind lines → LogsLines kind lines
logs_is (Log file) lines x = (x.0, x.2.each)
logs_is kind lines x = tt

clock_is : (kind : EntryKind) → IsSmall kind → SetsClock kind
clock_is (Crash clock) x = x
clock_is kind x = tt

abbrev pub DoesLog : Entry → Type 0
DoesLog e = LogsWell e.kind e.lines

formed_is : (e : Entry) → IsBounded e → DoesLog e → IsWellFormed e
formed_is e bounds logs = record { logs = logs_is e.kind e.lines logs; in_time = bounds.in_time; clock = clock_is e.kind bounds.small }

past_bounded : (s : ℕ → SetUp) (past : List Entry) → RunPast s past → Each IsBounded past
past_bounded s [] run = tt
past_bounded s (e ∷ past) run = (record { in_time = run.0.order.in_time; small = run.0.order.small }, past_bounded s past run.1)

-- the entries of a run are well formed
pub run_formed : (run : Run) → IsRun run → Each DoesLog run.entries → Each IsWellFormed run.entries
run_formed run is logs =
    let bounds = Each-reverse IsBounded (reverse run.entries) (past_bounded (set_up run) (reverse run.entries) is.steps) in
    Each-both IsBounded DoesLog IsWellFormed formed_is run.entries (subst (Each IsBounded) (reverse-reverse run.entries) bounds) logs

-- and the clocks of its repositories are within their bounds
pub run_ahead : (run : Run) → IsRun run → Each IsAhead run.repos
run_ahead run is = Each-weaker IsSetUp IsAhead (λ r set. set.offset) run.repos is.repos

-- ---- the script

showing_known : (m : ℕ) (x : Context) (what : Showing) → length x.repos ≤ m → IsValidShowing x what → IsOfKnown m what
showing_known m x (showings.Claims r k) l s = let here = s.0 in omega (arith, l, here)
showing_known m x (showings.Location r k) l s = let here = s.0 in omega (arith, l, here)
showing_known m x (showings.Log r file) l s = let here = s.0 in omega (arith, l, here)
showing_known m x (showings.Logs r) l s = omega (arith, l, s)
showing_known m x (showings.Numbers r path) l s = let here = s.0 in omega (arith, l, here)
showing_known m x (showings.Level r target) l s = let here = s.0 in let there = s.1 in (omega (arith, l, here), omega (arith, l, there))
showing_known m x (showings.Wants r target path) l s = let here = s.0 in let there = s.1 in (omega (arith, l, here), omega (arith, l, there))
showing_known m x (showings.Row r k) l s = let here = s.0 in omega (arith, l, here)
showing_known m x (showings.Plan r) l s = omega (arith, l, s)
showing_known m x what l s = tt

one_known : (m : ℕ) (x : Context) (c : Command) → length x.repos ≤ m → IsValidIn x c → ShowsKnown m c
one_known m x (commands.Shows what) l s = showing_known m x what l s
one_known m x c l s = tt

-- a command declares as many repositories for those behind it as for the run
pub declares_alike : (c : Command) → length (script.declared_by c) ≡ length (declared_by c)
declares_alike c = sym (length-map (script.declared_by c) view_of)

all_known : (m : ℕ) (x : Context) (cs : List Command) → length x.repos + length (repos_of cs) ≤ m → AllStand x cs → Each (ShowsKnown m) cs
all_known m x [] l s = tt
all_known m x (c ∷ cs) l s =
    let both = length-append (declared_by c) (repos_of cs) in
    let long = length-append x.repos (script.declared_by c) in
    let alike = declares_alike c in
    (one_known m x c (omega (arith, l, both)) s.0, all_known m (context_with x c) cs (omega (arith, l, both, long, alike)) s.2)

-- the script shows what is of its repositories
pub script_shows_known : (cs : List Command) → AllStand no_context cs → Each (ShowsKnown (length (repos_of cs))) cs
script_shows_known cs stand = all_known (length (repos_of cs)) no_context cs (omega arith) stand
