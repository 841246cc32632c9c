-- The step that writes the first owed line.
use Rattle.std.specs.Prelude.{List, [], ◌∷◌, Option, Some, None}
use Rattle.annex_base.specs.declared.kinds.Call.TheVariants.{PutFile}
use Rattle.run_data.specs.declared.entry.EntryKind.TheVariants.{Log, Fault}
use Rattle.run_data.specs.declared.entry.LogFile.TheVariants.{Location}
use Rattle.node_model.specs.SetUp.{SetUp}
use Rattle.node_model.specs.OwedLines.{OwedLine, due}
use Rattle.node_model.specs.State.{State}
use Rattle.node_model.specs.Look.{Look, Effect, failing_call, unless}

abbrev pub pays_first : SetUp → State → Look → List OwedLine → Option Effect
pays_first s st k [] = None
pays_first s st k (o ∷ os) = Some (unless (failing_call k.fails (PutFile ∷ []))
    (λ call. record { kind = Fault call o.by; taken = None; sent = []; lines = []; calls = PutFile ∷ [] })
    (record { kind = Log (Location o.key); taken = None; sent = []; lines = due s.repos st.lines (st.wall k.time) o; calls = PutFile ∷ [] }))

abbrev pub owed_step : SetUp → State → Look → Option Effect
owed_step s st k = pays_first s st k st.owed
