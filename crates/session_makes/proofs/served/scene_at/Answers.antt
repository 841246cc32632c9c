-- What the proof of `served::scene_at` needs beside the tactics.
use Rattle.std.proofs.Common.{ℕ, ◌+◌, List, sym, ap, ◌∙◌}
use Rattle.std.specs.Prelude.{is_some, slice_get}
use Rattle.annex_base.proofs.Functions.{funext}
use Rattle.run_data.specs.declared.run.RepoView.{RepoView}
use Rattle.node_model.specs.SessionStep.{is_filled}
use Rattle.node_model.specs.SetUp.{locks_in, version_in}
use Rattle.state_rows.specs.Rows.{bar_of, size_of}
use Rattle.step_judging.specs.Telling.{failed_call, first_line, matches_told, part_told}
use Rattle.step_effects.specs.Sendings.{name_of}
use Rattle.session_makes.proofs.MakingLemmas.{id_found}
use Rattle.session_makes.proofs.served.scene_at.Goals as goal

pub returns-clause-here : goal.returns-clause-here
returns-clause-here c = λ s st words same is found.
    let e = c.args.told.now in
    let own = ap (λ (rs : List RepoView). slice_get rs s.number) same ∙ found in
    let are = c.rows.ensures s st is in
    let rows = c.rows.result.now in
    λ i. record {
      at = name_of c.args.at;
      id = sym (id_found s.repos s.number c.args.repo.now own) i;
      version = sym (ap version_in own) i;
      locks = sym (ap locks_in own) i;
      now = sym (c.clock.ensures.value s st is) i;
      number = sym (ap (λ (n : ℕ). n + 1) (is.parts.counts.made ∙ sym c.made.ensures)) i;
      present = sym (funext st.present (λ key. is_some (size_of rows key)) are.present) i;
      bar = sym (funext st.bar (λ key. bar_of rows key) are.bar) i;
      content = sym (funext st.content (λ key. size_of rows key) are.content) i;
      holds = sym are.holds i;
      filled = is_filled s st;
      fails = failed_call e.kind;
      part = part_told e.kind (first_line e.sent);
      right = matches_told e.kind;
    }
