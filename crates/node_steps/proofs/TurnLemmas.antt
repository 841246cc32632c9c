-- A turn of a node, from its steps.
use Rattle.std.proofs.Common.{◌≡◌, Bool, true, false, List, [], ◌∷◌, Option, Some, None, Result, Ok, Err, IfOk, is_some, refl, subst, ◌∙◌, ap}
use Rattle.std.specs.Option.{ForSome, option_or}
use Rattle.annex_base.specs.declared.memory.NoMemory.{NoMemory}
use Rattle.object_store.specs.Stores.{Contents}
use Rattle.link_ring.specs.Ends.{EndView}
use Rattle.node_model.specs.Look.{Look, Effect}
use Rattle.node_model.specs.OwedLines.{OwedLine}
use Rattle.node_model.specs.OwedStep.{owed_step, pays_first}
use Rattle.node_model.specs.SessionStep.{session_step}
use Rattle.node_model.specs.SetUp.{SetUp}
use Rattle.node_model.specs.State.{State}
use Rattle.node_model.specs.Step.{step}
use Rattle.node_model.specs.Turns.{job_step}
use Rattle.node_steps.specs.Nodes.{MatchesSetup, IsState, NodeView, state_of}
use Rattle.node_past.specs.Owing.{is_owing}
use Rattle.node_steps.specs.Stepping.{AddsIf, MovesSo, NoStep, ReadySo}
use Rattle.node_past.specs.Stored.{StoreView}
use Rattle.node_steps.specs.Turning.{Looks, Stepper, StepsBy}

-- ---- a line that is owed comes first

pub none_owing : (os : List OwedLine) → is_owing os ≡ false → os ≡ []
none_owing [] none = refl
none_owing (o ∷ os) none = absurd cc

some_owing : (s : SetUp) (st : State) (k : Look) (os : List OwedLine) → is_owing os ≡ true → is_some (pays_first s st k os) ≡ true
some_owing s st k [] owes = absurd cc
some_owing s st k (o ∷ os) owes = refl

none_owed : (s : SetUp) (st : State) (k : Look) (os : List OwedLine) → st.owed ≡ os → is_owing os ≡ false → owed_step s st k ≡ None
none_owed s st k os is none = ap (pays_first s st k) (is ∙ none_owing os none)

first_some : (x y : Option Effect) → is_some x ≡ true → is_some (option_or x y) ≡ true
first_some None y there = absurd cc
first_some (Some x) y there = refl

-- ---- a step of one kind is the step

-- the lines that the state owes are the node's, where the store tells
abbrev pub Owes : {K : Type 0} → NodeView K → Type 0
Owes n = (s : SetUp) → MatchesSetup n.setup s → (state_of s n.history).owed ≡ n.owed

pub owes_told : {K : Type 0} (n : NodeView K) (told : Option Contents) (c : Contents) → ((s : SetUp) → MatchesSetup n.setup s → IsState s n.parts n.branch n.owed told (state_of s n.history)) → told ≡ Some c → Owes n
owes_told n told c is known s fits = ((is s fits).stands c known).owed_are

steps_first : {K : Type 0} (first : Stepper) (before after : StoreView) (n m : NodeView K)
    → ((s : SetUp) (k : Look) (made : Effect) → MatchesSetup n.setup s → Looks n s k → first s (state_of s n.history) k ≡ Some made → step s (state_of s n.history) k ≡ Some made)
    → StepsBy first before after n m → StepsBy step before after n m
steps_first first before after n m is by = record {
  kind = by.kind;
  taken = by.taken;
  part = by.part;
  makes = λ s k fits looks finds.
      let it = by.makes s k fits looks finds in
      record { made = it.made; same = it.same; takes = it.takes; makes = is s k it.made fits looks it.makes; adds = it.adds; calls = it.calls };
}

pub owed_first : {K : Type 0} (r : Result Bool NoMemory) (before after : StoreView) (n m : NodeView K) (told : Option Contents) → IfOk r (λ b. b ≡ true) → IfOk r (λ b. ForSome told (λ c. MovesSo b owed_step before after n m))
    → IfOk r (λ b. ForSome told (λ c. MovesSo b step before after n m))
owed_first (Ok true) before after n m told made moves = λ c known.
    steps_first owed_step before after n m
    (λ s k it fits looks is.
    let st : State = state_of s n.history in
    ap (λ (o : Option Effect). option_or o (option_or (session_step s st k) (job_step s st k))) is) (moves c known)
owed_first (Ok false) before after n m told made moves = absurd cc
owed_first (Err e) before after n m told made moves = tt

-- no line is owed, and a session has a step
pub served_first : {K : Type 0} (before after : StoreView) (n m : NodeView K) → Owes n → is_owing n.owed ≡ false → StepsBy session_step before after n m → StepsBy step before after n m
served_first before after n m owes none by = steps_first session_step before after n m
    (λ s k it fits looks is.
    let st : State = state_of s n.history in
    ap (λ (o : Option Effect). option_or o (option_or (session_step s st k) (job_step s st k))) (none_owed s st k n.owed (owes s fits) none)
    ∙ ap (λ (o : Option Effect). option_or o (job_step s st k)) is) by

-- neither, and a job has one or hasn't
module _ {K : Type 0} (n : NodeView K) (owes : Owes n) (none : is_owing n.owed ≡ false) (idle : NoStep session_step n) (s : SetUp) (k : Look) (fits : MatchesSetup n.setup s) (looks : Looks n s k) where
  abbrev here : State
  here = state_of s n.history

  job_is : step s here k ≡ job_step s here k
  job_is =
      ap (λ (o : Option Effect). option_or o (option_or (session_step s here k) (job_step s here k))) (none_owed s here k n.owed (owes s fits) none)
      ∙ ap (λ (o : Option Effect). option_or o (job_step s here k)) (idle s k fits looks)

acted_same : {K : Type 0} (b : Bool) (before after : StoreView) (n m : NodeView K) → Owes n → is_owing n.owed ≡ false → NoStep session_step n → MovesSo b job_step before after n m → MovesSo b step before after n m
acted_same true before after n m owes none idle moves = steps_first job_step before after n m
    (λ s k it fits looks is. job_is n owes none idle s k fits looks ∙ is) moves
acted_same false before after n m owes none idle moves = λ s k fits looks. job_is n owes none idle s k fits looks ∙ moves s k fits looks

-- ---- a step is ready

pub ready_owed : {K : Type 0} (n : NodeView K) → Owes n → is_owing n.owed ≡ true → ReadySo true step n
ready_owed n owes some s k fits looks =
    let st : State = state_of s n.history in
    first_some (owed_step s st k) (option_or (session_step s st k) (job_step s st k)) (ap (λ (os : List OwedLine). is_some (pays_first s st k os)) (owes s fits) ∙ some_owing s st k n.owed some)

pub ready_else : {K : Type 0} (b : Bool) (n : NodeView K) → Owes n → is_owing n.owed ≡ false
    → ((s : SetUp) (k : Look) → MatchesSetup n.setup s → Looks n s k → is_some (option_or (session_step s (state_of s n.history) k) (job_step s (state_of s n.history) k)) ≡ b) → ReadySo b step n
ready_else b n owes none ready s k fits looks =
    let st : State = state_of s n.history in
    ap (λ (o : Option Effect). is_some (option_or o (option_or (session_step s st k) (job_step s st k)))) (none_owed s st k n.owed (owes s fits) none) ∙ ready s k fits looks

-- ---- whether one is ready

abbrev pub ReadyElse : {K : Type 0} → Bool → NodeView K → Type 0
ReadyElse b n = (s : SetUp) (k : Look) → MatchesSetup n.setup s → Looks n s k → is_some (option_or (session_step s (state_of s n.history) k) (job_step s (state_of s n.history) k)) ≡ b

pub ready_if : {K : Type 0} (r : Result Bool NoMemory) (n : NodeView K) (told : Option Contents) → ((s : SetUp) → MatchesSetup n.setup s → IsState s n.parts n.branch n.owed told (state_of s n.history)) → is_owing n.owed ≡ false
    → IfOk r (λ b. ForSome told (λ c. ReadyElse b n)) → IfOk r (λ b. ForSome told (λ c. ReadySo b step n))
ready_if (Ok b) n told is none ready = λ c known. ready_else b n (owes_told n told c is known) none (ready c known)
ready_if (Err e) n told is none ready = tt

-- ---- one step of the three

pub first_served : {K : Type 0} (b : Bool) (before after : StoreView) (n m : NodeView K) (told : Option Contents) → ((s : SetUp) → MatchesSetup n.setup s → IsState s n.parts n.branch n.owed told (state_of s n.history)) → is_owing n.owed ≡ false → b ≡ true
    → ForSome told (λ c. MovesSo b session_step before after n m) → ForSome told (λ c. StepsBy step before after n m)
first_served b before after n m told is none made moves = λ c known.
    served_first before after n m (owes_told n told c is known) none (subst (λ (x : Bool). MovesSo x session_step before after n m) made (moves c known))

pub still_is : {K : Type 0} (b : Bool) (links : List EndView) (before after : StoreView) (n m : NodeView K) → b ≡ false → AddsIf b links before after n m → m ≡ n
still_is {K} b links before after n m made adds = subst (λ (x : Bool). AddsIf x links before after n m) made adds

pub then_acted : {K : Type 0} (view : K → StoreView) (r : Result Bool NoMemory) (b : Bool) (middle : StoreView) (n n' m : NodeView K) (told told' : Option Contents)
    → ((s : SetUp) → MatchesSetup n.setup s → IsState s n.parts n.branch n.owed told (state_of s n.history)) → is_owing n.owed ≡ false → b ≡ false
    → ForSome told (λ c. MovesSo b session_step (view n.keeper) middle n n') → n' ≡ n → told' ≡ told
    → IfOk r (λ x. ForSome told' (λ c. MovesSo x job_step (view n'.keeper) (view m.keeper) n' m)) → IfOk r (λ x. ForSome told (λ c. MovesSo x step (view n.keeper) (view m.keeper) n m))
then_acted {K} view (Ok x) b middle n n' m told told' is none made idle same tells moves = λ c known.
    acted_same x (view n.keeper) (view m.keeper) n m (owes_told n told c is known) none (subst (λ (y : Bool). MovesSo y session_step (view n.keeper) middle n n') made (idle c known))
    (subst (λ (v : NodeView K). MovesSo x job_step (view v.keeper) (view m.keeper) v m) same (moves c (tells ∙ known)))
then_acted {K} view (Err e) b middle n n' m told told' is none made idle same tells moves = tt

-- what is added over a store that was as it is
pub adds_over : {K : Type 0} (view : K → StoreView) (r : Result Bool NoMemory) (n n' m : NodeView K) → n' ≡ n → IfOk r (λ b. AddsIf b n'.parts.links (view n'.keeper) (view m.keeper) n' m) → IfOk r (λ b. AddsIf b n.parts.links (view n.keeper) (view m.keeper) n m)
adds_over {K} view r n n' m same adds = subst (λ (v : NodeView K). IfOk r (λ b. AddsIf b v.parts.links (view v.keeper) (view m.keeper) v m)) same adds
