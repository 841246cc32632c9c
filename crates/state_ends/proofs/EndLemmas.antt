-- How the ends of a repository change by an entry.
use Rattle.std.proofs.Common.{◌≡◌, ℕ, ◌+◌, ◌≤◌, ◌<◌, Bool, true, false, cond, not, ◌&&◌, ◌==◌, if◌then◌else◌, List, [], ◌∷◌, ◌++◌, length, fold, Option, Some, None, unwrap_or, refl, sym, ap, ◌∙◌, arith}
use Rattle.std.proofs.lemmas.List.Elements.{filter-append}
use Rattle.std.proofs.lemmas.List.Sums.{fold-append}
use Rattle.annex_base.specs.Bools.{same_bool}
use Rattle.run_data.specs.declared.entry.FrameView.{FrameView}
use Rattle.run_data.specs.declared.entry.FrameText.{FrameText}
use Rattle.run_data.specs.declared.entry.FrameText.TheVariants.{Opening, Closing}
use Rattle.node_model.specs.Ends.{End, EndName, end_sends, end_takes, end_took, never, sends_at, sent_at, takes_at, taken_at}
use Rattle.state_ends.specs.Bounds.{IsBelow}
use Rattle.state_ends.specs.Sides.{end_in, end_on}
use Rattle.state_ends.specs.declared.side.Connection.{Connection}

abbrev pub Side : Type 0
Side = List (Connection × End)

-- ---- tests

and_true : (b : Bool) → (b && true) ≡ b
and_true true = refl
and_true false = refl

and_false : (b : Bool) → (b && false) ≡ false
and_false true = refl
and_false false = refl

same_left_true : (b : Bool) → same_bool b true ≡ b
same_left_true true = refl
same_left_true false = refl

same_left_false : (b : Bool) → same_bool b false ≡ not b
same_left_false true = refl
same_left_false false = refl

same_right_false : (b : Bool) → same_bool false b ≡ not b
same_right_false true = refl
same_right_false false = refl

-- ---- one side

chosen : (b : Bool) (c d : End) (o : Option End) → unwrap_or (if b then Some c else o) d ≡ (if b then c else unwrap_or o d)
chosen true c d o = refl
chosen false c d o = refl

-- what a look-up finds after an insertion
pub put_in : (b : Bool) (c : End) (o new : Option End) → new ≡ cond b (Some c) o → unwrap_or new never ≡ (if b then c else unwrap_or o never)
put_in b c o new is = ap (λ (x : Option End). unwrap_or x never) is ∙ chosen b c never o

-- an end of the side changes so
abbrev pub ChangesAt : (End → End) → Side → Side → ℕ → ℕ → Type 0
ChangesAt g was now peer slot = (p q : ℕ) → end_in now p q ≡ (if (peer == p) && (slot == q) then g (end_in was p q) else end_in was p q)

-- ---- both sides

pub client_changes : (g : End → End) (was now servers : Side) (peer slot : ℕ) → ChangesAt g was now peer slot
    → (a : EndName) → end_on now servers a ≡ (if (peer == a.peer) && (slot == a.slot) && a.client then g (end_on was servers a) else end_on was servers a)
client_changes g was now servers peer slot h a = go a.client a.peer a.slot
  where
    go : (client : Bool) (p q : ℕ) → (if client then end_in now p q else end_in servers p q)
        ≡ (if (peer == p) && (slot == q) && client then g (if client then end_in was p q else end_in servers p q) else (if client then end_in was p q else end_in servers p q))
    go true p q = h p q ∙ ap (λ (b : Bool). if b then g (end_in was p q) else end_in was p q) (sym (and_true ((peer == p) && (slot == q))))
    go false p q = ap (λ (b : Bool). if b then g (end_in servers p q) else end_in servers p q) (sym (and_false ((peer == p) && (slot == q))))

pub server_changes : (g : End → End) (clients was now : Side) (peer slot : ℕ) → ChangesAt g was now peer slot
    → (a : EndName) → end_on clients now a ≡ (if (peer == a.peer) && (slot == a.slot) && not a.client then g (end_on clients was a) else end_on clients was a)
server_changes g clients was now peer slot h a = go a.client a.peer a.slot
  where
    go : (client : Bool) (p q : ℕ) → (if client then end_in clients p q else end_in now p q)
        ≡ (if (peer == p) && (slot == q) && not client then g (if client then end_in clients p q else end_in was p q) else (if client then end_in clients p q else end_in was p q))
    go false p q = h p q ∙ ap (λ (b : Bool). if b then g (end_in was p q) else end_in was p q) (sym (and_true ((peer == p) && (slot == q))))
    go true p q = ap (λ (b : Bool). if b then g (end_in clients p q) else end_in clients p q) (sym (and_false ((peer == p) && (slot == q))))

-- ---- a frame that is sent

pub sent_up : (f : FrameView) (was now servers : Side) → f.up ≡ true → ChangesAt (λ c. end_sends c f.body) was now f.peer f.slot
    → (a : EndName) → end_on now servers a ≡ (if sends_at a f then end_sends (end_on was servers a) f.body else end_on was servers a)
sent_up f was now servers up h a =
    client_changes (λ c. end_sends c f.body) was now servers f.peer f.slot h a
    ∙ ap (λ (b : Bool). if (f.peer == a.peer) && (f.slot == a.slot) && same_bool b a.client then end_sends (end_on was servers a) f.body else end_on was servers a) (sym up)

pub sent_down : (f : FrameView) (clients was now : Side) → f.up ≡ false → ChangesAt (λ c. end_sends c f.body) was now f.peer f.slot
    → (a : EndName) → end_on clients now a ≡ (if sends_at a f then end_sends (end_on clients was a) f.body else end_on clients was a)
sent_down f clients was now up h a =
    server_changes (λ c. end_sends c f.body) clients was now f.peer f.slot h a
    ∙ ap (λ (b : Bool). if (f.peer == a.peer) && (f.slot == a.slot) && b then end_sends (end_on clients was a) f.body else end_on clients was a)
    (sym (same_right_false a.client) ∙ ap (λ (b : Bool). same_bool b a.client) (sym up))

-- ---- a frame that is taken

took_if : (b : Bool) (c : End) (f : FrameView) → (if b then end_takes c f.epoch f.body else c) ≡ end_took c (if b then Some f else None)
took_if true c f = refl
took_if false c f = refl

pub taken_up : (f : FrameView) (clients was now : Side) → f.up ≡ true → ChangesAt (λ c. end_takes c f.epoch f.body) was now f.peer f.slot
    → (a : EndName) → end_on clients now a ≡ end_took (end_on clients was a) (taken_at a (Some f))
taken_up f clients was now up h a =
    server_changes (λ c. end_takes c f.epoch f.body) clients was now f.peer f.slot h a
    ∙ ap (λ (b : Bool). if (f.peer == a.peer) && (f.slot == a.slot) && b then end_takes (end_on clients was a) f.epoch f.body else end_on clients was a)
    (sym (same_left_false a.client) ∙ ap (λ (b : Bool). same_bool a.client (if b then false else true)) (sym up))
    ∙ took_if (takes_at a f) (end_on clients was a) f

pub taken_down : (f : FrameView) (was now servers : Side) → f.up ≡ false → ChangesAt (λ c. end_takes c f.epoch f.body) was now f.peer f.slot
    → (a : EndName) → end_on now servers a ≡ end_took (end_on was servers a) (taken_at a (Some f))
taken_down f was now servers up h a =
    client_changes (λ c. end_takes c f.epoch f.body) was now servers f.peer f.slot h a
    ∙ ap (λ (b : Bool). if (f.peer == a.peer) && (f.slot == a.slot) && b then end_takes (end_on was servers a) f.epoch f.body else end_on was servers a)
    (sym (same_left_true a.client) ∙ ap (λ (b : Bool). same_bool a.client (if b then false else true)) (sym up))
    ∙ took_if (takes_at a f) (end_on was servers a) f

-- ---- frames one after the other

-- the end after it sent these
abbrev pub sends_all : End → List FrameView → End
sends_all c fs = fold (λ x f. end_sends x f.body) c fs

pub sent_more : (a : EndName) (c : End) (fs : List FrameView) (f : FrameView)
    → (if sends_at a f then end_sends (sends_all c (sent_at a fs)) f.body else sends_all c (sent_at a fs)) ≡ sends_all c (sent_at a (fs ++ f ∷ []))
sent_more a c fs f =
    go (sends_at a f) ∙ sym (fold-append (λ x g. end_sends x g.body) c (sent_at a fs) (sent_at a (f ∷ []))) ∙ ap (sends_all c) (sym (filter-append (sends_at a) fs (f ∷ [])))
  where
    go : (b : Bool) → (if b then end_sends (sends_all c (sent_at a fs)) f.body else sends_all c (sent_at a fs)) ≡ sends_all (sends_all c (sent_at a fs)) (cond b (f ∷ []) [])
    go true = refl
    go false = refl

-- ---- bounds

pub below_more : (limit more : ℕ) (c : End) → limit ≤ more → IsBelow limit c → IsBelow more c
below_more limit more c le is = record { epoch = omega (arith, is.epoch); sent = omega (arith, is.sent) }

below_sends : (limit : ℕ) (c : End) (body : FrameText) → IsBelow limit c → IsBelow (limit + 1) (end_sends c body)
below_sends limit c Opening is = record { epoch = omega (arith, is.epoch); sent = omega (arith, is.sent) }
below_sends limit c Closing is = record { epoch = omega (arith, is.epoch); sent = omega (arith, is.sent) }
below_sends limit c body is = record { epoch = omega (arith, is.epoch); sent = omega (arith, is.sent) }

pub below_all : (limit : ℕ) (c : End) (fs : List FrameView) → IsBelow limit c → IsBelow (limit + length fs) (sends_all c fs)
below_all limit c [] is = below_more limit (limit + 0) c (omega arith) is
below_all limit c (f ∷ fs) is = below_more (limit + 1 + length fs) (limit + length (f ∷ fs)) (sends_all c (f ∷ fs)) (omega arith) (below_all (limit + 1) (end_sends c f.body) fs (below_sends limit c f.body is))

pub below_takes : (limit : ℕ) (c : End) (epoch : ℕ) (body : FrameText) → epoch < limit → IsBelow limit c → IsBelow limit (end_takes c epoch body)
below_takes limit c epoch Opening low is = record { epoch = low; sent = omega (arith, is.sent) }
below_takes limit c epoch Closing low is = record { epoch = is.epoch; sent = is.sent }
below_takes limit c epoch body low is = is

pub below_took : (limit : ℕ) (a : EndName) (c : End) (f : FrameView) → f.epoch < limit → IsBelow limit c → IsBelow limit (end_took c (taken_at a (Some f)))
below_took limit a c f low is = go (takes_at a f)
  where
    go : (b : Bool) → IsBelow limit (end_took c (if b then Some f else None))
    go true = below_takes limit c f.epoch f.body low is
    go false = is
