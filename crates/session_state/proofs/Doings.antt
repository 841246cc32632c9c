-- Steps whose entries change no row, and removals.
use Rattle.std.proofs.Common.{◌≡◌, ℕ, Bool, true, false, List, Option, Some, None, refl, sym, ap, subst, ◌∙◌}
use Rattle.std.specs.Prelude.{if◌then◌else◌, bytes_eq, ◌&&◌, not, is_some, length}
use Rattle.std.specs.Option.{option_map}
use Rattle.annex_base.specs.declared.kinds.Call.{Call}
use Rattle.annex_base.specs.declared.kinds.Found.{Found}
use Rattle.annex_base.proofs.Conditions.{bytes_eq-true}
use Rattle.run_data.specs.declared.entry.By.{By}
use Rattle.run_data.specs.declared.entry.EntryKind.TheVariants.{Check, Fault, Gone, Talk}
use Rattle.p2p_wire.specs.declared.message.Message.{Message}
use Rattle.p2p_wire.specs.declared.message.Message.TheVariants.{Success, Failure}
use Rattle.object_store.specs.Stores.{Contents, with_at}
use Rattle.node_model.specs.SessionStep.{Here, Reply, reply, silent_reply}
use Rattle.content_lock.specs.Rows.{AreAfter, Rows, bar_at}
use Rattle.content_lock.specs.Stored.{without_content}
use Rattle.session_state.specs.declared.step.Step.{Step}
use Rattle.session_state.specs.declared.place.Scene.{Scene}
use Rattle.session_state.specs.Answers.{as_said, AnswersAsAsked, here_of, is_in, owner_of, size_in}

-- a look
pub checks : (x : Scene) (rows : Rows) (c : Contents) (known : Option Contents) (part : ℕ) (right : Bool) (asked : Here → Reply) (what : Found) (key : List ℕ) (m : Message) (step : Step)
    → step ≡ record { kind = Check what key; reply = Some m; close = false } → known ≡ Some c
    → reply (Check what key) m ≡ as_said (asked (here_of x rows c None part right)) → AnswersAsAsked x rows c known part right asked step
checks x rows c known part right asked what key m step is same f =
    subst (λ (s : Step). AnswersAsAsked x rows c known part right asked s) (sym is)
    (record { answers = f; changes = record { contents = c; told = same; present = λ k. refl; sizes = λ k. refl } })

-- a fault
pub faults : (x : Scene) (rows : Rows) (c : Contents) (known : Option Contents) (part : ℕ) (right : Bool) (asked : Here → Reply) (call : Call) (step : Step)
    → step ≡ record { kind = Fault call (owner_of x); reply = Some Failure; close = false } → known ≡ Some c
    → reply (Fault call (owner_of x)) Failure ≡ as_said (asked (here_of x rows c (Some call) part right)) → AnswersAsAsked x rows c known part right asked step
faults x rows c known part right asked call step is same f =
    subst (λ (s : Step). AnswersAsAsked x rows c known part right asked s) (sym is)
    (record { answers = f; changes = record { contents = c; told = same; present = λ k. refl; sizes = λ k. refl } })

-- an answer that is no entry of its own
pub talks : (x : Scene) (rows : Rows) (c : Contents) (known : Option Contents) (part : ℕ) (right : Bool) (asked : Here → Reply) (m : Message) (step : Step)
    → step ≡ record { kind = Talk None; reply = Some m; close = false } → known ≡ Some c
    → reply (Talk None) m ≡ as_said (asked (here_of x rows c None part right)) → AnswersAsAsked x rows c known part right asked step
talks x rows c known part right asked m step is same f =
    subst (λ (s : Step). AnswersAsAsked x rows c known part right asked s) (sym is)
    (record { answers = f; changes = record { contents = c; told = same; present = λ k. refl; sizes = λ k. refl } })

pub quiets : (x : Scene) (rows : Rows) (c : Contents) (known : Option Contents) (part : ℕ) (right : Bool) (asked : Here → Reply) (step : Step)
    → step ≡ record { kind = Talk None; reply = None; close = false } → known ≡ Some c
    → silent_reply (Talk None) ≡ as_said (asked (here_of x rows c None part right)) → AnswersAsAsked x rows c known part right asked step
quiets x rows c known part right asked step is same f =
    subst (λ (s : Step). AnswersAsAsked x rows c known part right asked s) (sym is)
    (record { answers = f; changes = record { contents = c; told = same; present = λ k. refl; sizes = λ k. refl } })

gone_there : (c : Contents) (key k : List ℕ) → is_in (with_at c key None) k ≡ (is_in c k && not (bytes_eq key k))
gone_there c key k = elim (bytes_eq key k) as (λ b. is_some (if b then None else c k) ≡ (is_some (c k) && not b)) [
  | true ↦ elim (is_some (c k)) as (λ b. false ≡ (b && false)) [ true ↦ refl | false ↦ refl ]
  | false ↦ elim (is_some (c k)) as (λ b. b ≡ (b && true)) [ true ↦ refl | false ↦ refl ]
]

gone_size : (c : Contents) (key k : List ℕ) → size_in (with_at c key None) k ≡ (if bytes_eq key k then None else size_in c k)
gone_size c key k = elim (bytes_eq key k) as (λ b. option_map length (if b then None else c k) ≡ (if b then None else size_in c k)) [ true ↦ refl | false ↦ refl ]

-- a removal
pub removes : (x : Scene) (rows : Rows) (c : Contents) (was known : Option Contents) (part : ℕ) (right : Bool) (asked : Here → Reply) (key : List ℕ) (by : By) (step : Step)
    → step ≡ record { kind = Gone by key; reply = Some Success; close = false } → by ≡ owner_of x → known ≡ without_content was key → was ≡ Some c
    → reply (Gone (owner_of x) key) Success ≡ as_said (asked (here_of x rows c None part right)) → AnswersAsAsked x rows c known part right asked step
removes x rows c was known part right asked key by step is owner gone told f =
    subst (λ (s : Step). AnswersAsAsked x rows c known part right asked s) (sym (is ∙ ap (λ (b : By). record { kind = Gone b key; reply = Some Success; close = false }) owner))
    (record {
      answers = f;
      changes = record {
        contents = with_at c key None;
        told = gone ∙ ap (λ (o : Option Contents). without_content o key) told;
        present = gone_there c key;
        sizes = gone_size c key;
      };
    })

-- a removal takes a bar that isn't there
pub no_bar : (rows : Rows) (by : By) (key : List ℕ) → bar_at rows key ≡ None → AreAfter (Gone by key) rows rows
no_bar rows by key off = record { holds = refl; bars = λ k. go k (bytes_eq key k) refl; fills = refl }
  where
    go : (k : List ℕ) (b : Bool) → bytes_eq key k ≡ b → bar_at rows k ≡ (if b then None else bar_at rows k)
    go k true e = ap (bar_at rows) (sym (bytes_eq-true key k e)) ∙ off
    go k false e = refl
