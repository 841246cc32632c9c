-- What the proof of `owing::pays` needs beside the tactics.
use Rattle.std.proofs.Common.{sym, ap, None, ℕ, List, ◌∙◌, ◌≡◌, ◌&&◌, []}
use Rattle.std.specs.Option.{option_eq}
use Rattle.step_judging.specs.Same.{same_frame, same_frames, same_kind, same_lines}
use Rattle.run_data.specs.declared.entry.EntryKind.TheVariants.{Log}
use Rattle.run_data.specs.declared.entry.LogFile.TheVariants.{Location}
use Rattle.step_makes.proofs.OwingLemmas.{due_same}
use Rattle.union_merge.specs.Branch.{Files as BranchFiles, lines_at}
use Rattle.step_makes.proofs.owing.pays.Goals as goal

pub returns : goal.returns
returns c = λ s st repos is.
    let told = c.args.told.now in
    let o = c.args.line.now in
    let files = c.files.ensures s st is in
    let lines : List ℕ → List (List ℕ) = λ path. lines_at c.branch-branch.result.now path in
    let has : (path : List ℕ) → st.lines path ≡ lines path = λ path. files.lines path ∙ ap (λ (b : BranchFiles). lines_at b path) (sym c.branch-branch.ensures) in
    let same = due_same s.repos c.args.repos.now st.lines c.branch-branch.result.now (st.wall told.time) c.wall-clock.result o repos has (c.wall-clock.ensures.value s st is) in
    c.tells_lines.ensures
    ∙ (λ i. c.is_location-kind_is.ensures i && option_eq same_frame None told.taken && same_frames [] told.sent && c.same_lines-lines_is.ensures i)
    ∙ (λ i. same_kind (Log (Location ((c.line.view_is i).key))) told.kind && option_eq same_frame None told.taken && same_frames [] told.sent && same_lines ((c.lines.ensures.value ∙ c.in_ok-due.ensures ∙ sym same) i) (c.as_slice.ensures i))
