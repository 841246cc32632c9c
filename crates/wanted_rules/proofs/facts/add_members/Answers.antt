-- What the proof of `facts::add_members` needs beside the tactics.
use Rattle.std.proofs.Common.{List, ℕ, ◌++◌, nat_le, sym, ap, ◌∙◌}
use Rattle.std.proofs.lemmas.Result.{IfOk-weaker}
use Rattle.annex_base.specs.declared.kinds.Level.{Level}
use Rattle.trust_groups.specs.View.{settings_of}
use Rattle.wanted_expr.specs.declared.data.Member.{Member}
use Rattle.wanted_expr.specs.Truth.{rank}
use Rattle.wanted_rules.specs.Reads.{members_of}
use Rattle.wanted_rules.proofs.WishLemmas.{alive_members, dead_members}
use Rattle.wanted_rules.proofs.facts.add_members.Goals as goal

pub returns-then-is_alive : goal.returns-then-is_alive
returns-then-is_alive c =
    let s = settings_of c.args.settings.now in
    let members = c.args.members.now in
    let alive = sym (c.is_alive.ensures ∙ ap (λ (l : Level). nat_le 1 (rank l)) c.level.ensures) ∙ c.if-is_alive.true in
    IfOk-weaker c.add_groups.result _ _ (λ v is. is ∙ ap (λ (gs : List (List ℕ)). members ++ members_of c.args.repo gs) c.groups.ensures ∙ ap (λ (ms : List Member). members ++ ms) (alive_members s c.args.repo alive)) c.add_groups.ensures

pub returns-else-is_alive : goal.returns-else-is_alive
returns-else-is_alive c = dead_members (settings_of c.args.settings.now) c.args.repo c.args.members.now (sym (c.is_alive.ensures ∙ ap (λ (l : Level). nat_le 1 (rank l)) c.level.ensures) ∙ c.if-is_alive.false)
