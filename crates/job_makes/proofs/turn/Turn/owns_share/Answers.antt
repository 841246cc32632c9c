-- What the proof of `turn::Turn::owns_share` needs beside the tactics.
use Rattle.std.proofs.Common.{◌&&◌, not, List, ap, ◌∙◌}
use Rattle.std.specs.Prelude.{reverse}
use Rattle.std.specs.List.{list_any}
use Rattle.std.proofs.lemmas.List.Sorted.{IsPermutation-reverse, list_any-IsPermutation}
use Rattle.run_data.specs.declared.entry.By.{By}
use Rattle.run_data.specs.declared.row.Hold.{Hold}
use Rattle.node_model.specs.Rows.{same_owner}
use Rattle.state_rows.specs.Rows.{holds_of}
use Rattle.job_makes.proofs.turn.Turn.owns_share.Goals as goal

pub returns : goal.returns
returns c = λ s st.
    let holds = c.holds.result.now in
    c.owns_open.ensures ∙ list_any-IsPermutation _ holds (reverse holds) (IsPermutation-reverse holds)
    ∙ ap (λ (hs : List Hold). list_any (λ (h : Hold). same_owner h.owner c.by_me.result && not h.kept) hs) c.holds.ensures
    ∙ ap (λ (by : By). list_any (λ (h : Hold). same_owner h.owner by && not h.kept) (holds_of c.args.self.now.rows.now)) (c.by_me.ensures s st)
