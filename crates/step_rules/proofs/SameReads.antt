-- The data of a state are those of the state of a set-up with other paths, where the running jobs' are the same.
use Rattle.std.proofs.Common.{◌≡◌, ℕ, List, Option, Some, None, refl, sym, subst, inl}
use Rattle.std.specs.Prelude.{◌==◌}
use Rattle.annex_base.specs.Lists.{Member}
use Rattle.annex_base.proofs.Lists.{Member-filter_parts}
use Rattle.run_data.specs.Repos.{id_of}
use Rattle.node_model.specs.Jobs.{Work, target_of}
use Rattle.node_model.specs.Knows.{need_by}
use Rattle.node_model.specs.SetUp.{SetUp}
use Rattle.node_model.specs.State.{State}
use Rattle.wanted_expr.specs.Wanted.{required}
use Rattle.state_reads.specs.Known.{AreLogsRead, KnownLogs}
use Rattle.state_reads.specs.Reads.{HasReadAs, HaveReadAs, IsOnly, reading_at}
use Rattle.state_reads.specs.declared.reads.Reads.{Reads}
use Rattle.step_state.specs.States.{IsStateOf}
use Rattle.step_state.specs.declared.state.RepoState.{RepoState}
use Rattle.step_rules.proofs.SameStep.{HavePaths, with_paths}

only_member : (works : List Work) (w : Work) → IsOnly works w → Member w works
only_member works w only = (Member-filter_parts (λ v. v.number == w.number) works w (subst (λ (ws : List Work). Member w ws) (sym only) (inl refl))).0

module _ (s : SetUp) (p : ℕ → List (List ℕ)) (st : State) (have : HavePaths s st.works p) where
  read_same : (w : Work) (known : KnownLogs) → Member w st.works → AreLogsRead (st.read w.number) s w known → AreLogsRead (st.read w.number) (with_paths s p) w known
  read_same w known among read = record {
    need = subst (λ (paths : List (List ℕ)). need_by (st.read w.number) paths ≡ known.need) (have w among) read.need;
    standing = read.standing;
    requires = subst (λ (paths : List (List ℕ)). required (st.read w.number) (id_of s.repos (target_of s.number w)) w.what.key paths ≡ known.requires) (have w among) read.requires;
  }

  as_same : (w : Work) (o : Option KnownLogs) → Member w st.works → HasReadAs s st w o → HasReadAs (with_paths s p) st w o
  as_same w None among read = read
  as_same w (Some known) among read = read_same w known among read

  reads_same : (x : Reads) → HaveReadAs s x st → HaveReadAs (with_paths s p) x st
  reads_same x h = record { each = λ w only. as_same w (reading_at x w.number) (only_member st.works w only) (h.each w only) }

  pub state_same : (x : RepoState) → IsStateOf x s st → IsStateOf x (with_paths s p) st
  state_same x is =
      let parts = is.parts in
      record {
        parts = record {
          place = record { number = parts.place.number; ids = parts.place.ids; offset = parts.place.offset };
          wall = parts.wall;
          counts = parts.counts;
          rows = parts.rows;
          links = parts.links;
          working = record { works = parts.working.works; reads = reads_same x.working.reads parts.working.reads; owed = parts.working.owed };
        };
        files = is.files;
      }
