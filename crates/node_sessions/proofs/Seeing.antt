-- What a store tells of the part that a session is asked for.
use Rattle.std.proofs.Common.{◌≡◌, ◌↔◌, ℕ, zero, suc, ◌∷◌, [], Bool, true, false, List, Option, Some, None, refl, sym, ap, subst, ◌∙◌, true≢false}
use Rattle.std.specs.Prelude.{length, slice_get, find, if◌then◌else◌}
use Rattle.run_data.specs.declared.entry.By.TheVariants.{Peer}
use Rattle.run_data.specs.declared.entry.FrameText.{FrameText}
use Rattle.run_data.specs.declared.entry.FrameText.TheVariants as texts
use Rattle.run_data.specs.declared.entry.FrameView.{FrameView}
use Rattle.key_verify.specs.declared.digester.Sum.{Sum}
use Rattle.key_verify.specs.declared.verdict.Verdict.{Verdict}
use Rattle.key_verify.specs.declared.verdict.Verdict.TheVariants.{Right, WrongSize, WrongDigest}
use Rattle.key_verify.specs.Matching.{MatchesKey, verdict_of}
use Rattle.key_verify.specs.Sums.{sum_of}
use Rattle.link_ring.specs.Ends.{EndView}
use Rattle.node_model.specs.Rows.{same_owner}
use Rattle.object_store.specs.Stores.{Parts}
use Rattle.p2p_wire.specs.declared.message.Message.{Message}
use Rattle.p2p_wire.specs.declared.message.Message.TheVariants as messages
use Rattle.p2p_wire.specs.Messages.{message_of}
use Rattle.p2p_server.specs.declared.Doing.{Doing}
use Rattle.p2p_server.specs.declared.Doing.TheVariants as doings
use Rattle.p2p_server.specs.declared.Taken.{Taken}
use Rattle.p2p_server.specs.declared.Incoming.{Incoming}
use Rattle.p2p_server.specs.declared.Incoming.TheVariants as incoming
use Rattle.p2p_server.specs.declared.session.Session.{Session}
use Rattle.p2p_server.specs.Talking.{Brings, IsFed, IsSumOf, IsTakenOf, SeesPart, SeesTaken, heard_line}
use Rattle.node_sessions.specs.declared.served.Served.{Served}
use Rattle.node_sessions.specs.Serving.{HasPart, SeesPartAt, server_in, taken_by}
use Rattle.node_sessions.specs.Sessions.{AreAllFed, owner_of}

-- ---- the one that is found

find_place : {X : Type 0} (p : X → Bool) (xs : List X) (x : X) → find p xs ≡ Some x → (i : ℕ) × (slice_get xs i ≡ Some x)
find_place p [] x e = absurd cc
find_place {X} p (y ∷ ys) x e = go (p y) (λ f. find_place p ys x f) e
  where
    go : (b : Bool) → (find p ys ≡ Some x → (i : ℕ) × (slice_get ys i ≡ Some x)) → (if b then Some y else find p ys) ≡ Some x → (i : ℕ) × (slice_get (y ∷ ys) i ≡ Some x)
    go true rest f = (zero, f)
    go false rest f = let h = rest f in (suc h.0, h.1)

-- ---- the verdict

is_right : Verdict → Bool
is_right Right = true
is_right (WrongSize want got) = false
is_right (WrongDigest want got) = false

right_only : (v : Verdict) → is_right v ≡ true → v ≡ Right
unfolding is_right
right_only Right e = refl
right_only (WrongSize want got) e = absurd (true≢false (sym e))
right_only (WrongDigest want got) e = absurd (true≢false (sym e))

right_is : (v : Verdict) → v ≡ Right → is_right v ≡ true
unfolding is_right
right_is v e = ap is_right e

-- the law of `verdicts_are_matches`
abbrev pub VerdictsMatch : Type 0
VerdictsMatch = (key bytes : List ℕ) → (verdict_of key (sum_of key bytes) ≡ Right) ↔ MatchesKey key bytes

abbrev right_in : Option Sum → List ℕ → Bool
right_in None key = false
right_in (Some sum) key = is_right (verdict_of key sum)

right_told : VerdictsMatch → (o : Option Sum) (key bytes : List ℕ) → IsSumOf o key bytes → (right_in o key ≡ true) ↔ MatchesKey key bytes
right_told law None key bytes is = absurd is
right_told law (Some sum) key bytes is = (
  λ e. (law key bytes).0 (ap (verdict_of key) (sym is) ∙ right_only (verdict_of key sum) e),
  λ m. right_is (verdict_of key sum) (ap (verdict_of key) is ∙ (law key bytes).1 m),
)

-- ---- what a look may find

abbrev right_of : Doing → Bool
right_of (doings.Took t) = right_in t.sum t.fill
right_of d = false

abbrev part_in : Parts → Option Message → ℕ
part_in p (Some (messages.Put file key)) = length (p key)
part_in p o = 0

abbrev part_of : Parts → FrameText → ℕ
part_of p (texts.Line text) = part_in p (message_of text)
part_of p body = 0

sees_of : (p : Parts) (d : Doing) (i : Incoming) (part : ℕ) (right : Bool) → ((file key : List ℕ) → i ≡ incoming.Message (messages.Put file key) → part ≡ length (p key)) → ((t : Taken) → d ≡ doings.Took t → SeesTaken (Some p) t right)
    → SeesPart (Some p) d i part right
sees_of p (doings.Took t) (incoming.Message messages.Valid) part right a b = b t refl
sees_of p d (incoming.Message (messages.Put file key)) part right a b = a file key refl
sees_of p d i part right a b = tt

line_part : (p : Parts) (o : Option Message) (i : Incoming) (file key : List ℕ) → heard_line o i → i ≡ incoming.Message (messages.Put file key) → part_in p o ≡ length (p key)
line_part p None i file key heard is = absurd cc
line_part p (Some m) i file key heard is =
    let same : m ≡ messages.Put file key = cc in ap (λ (x : Message). part_in p (Some x)) same

put_part : (p : Parts) (body : FrameText) (i : Incoming) (file key : List ℕ) → Brings body i → i ≡ incoming.Message (messages.Put file key) → part_of p body ≡ length (p key)
put_part p texts.Opening i file key brings is = absurd cc
put_part p texts.Closing i file key brings is = absurd cc
put_part p (texts.Bytes n) i file key brings is = absurd (subst (Brings (texts.Bytes n)) is brings)
put_part p (texts.Line text) i file key brings is = line_part p (message_of text) i file key brings is

took_right : VerdictsMatch → (p : Parts) (d : Doing) → IsFed p d → (t : Taken) → d ≡ doings.Took t → SeesTaken (Some p) t (right_of d)
took_right law p d fed t is =
    let taken : IsTakenOf t (p t.fill) = subst (IsFed p) is fed in
    subst (λ (x : Doing). SeesTaken (Some p) t (right_of x)) (sym is) (taken, right_told law t.sum t.fill (p t.fill) taken.1)

at_one : VerdictsMatch → (p : Parts) (xs : List Session) (links : List EndView) (v : Served) (x : Option Session) (f : Option FrameView) → ((y : Session) → x ≡ Some y → IsFed p y.state.doing) → (part : ℕ) × (right : Bool) × SeesPartAt (Some p) x f part right
at_one law p xs links v None f fed = (0, false, tt)
at_one law p xs links v (Some x) None fed = (0, false, tt)
at_one law p xs links v (Some x) (Some f) fed =
    (part_of p f.body, right_of x.state.doing, λ i brings. sees_of p x.state.doing i (part_of p f.body) (right_of x.state.doing) (λ file key is. put_part p f.body i file key brings is) (took_right law p x.state.doing (fed x refl)))

pub has_part : VerdictsMatch → (p : Parts) (xs : List Session) (links : List EndView) (o : Option Served) → AreAllFed p xs → HasPart (Some p) xs links o
has_part law p xs links None fed = record { part = 0; right = false; sees = λ v e. absurd cc }
has_part law p xs links (Some v) fed =
    let h = at_one law p xs links v (server_in xs v) (taken_by links v) (λ y e. let w = find_place (λ x. same_owner (owner_of x) (Peer v.peer v.slot)) xs y e in fed w.0 y w.1) in
    record { part = h.0; right = h.1; sees = λ w e. one v w e (h.0) (h.1) (h.2) }
  where
    one : (v w : Served) → Some v ≡ Some w → (part : ℕ) (right : Bool) → SeesPartAt (Some p) (server_in xs v) (taken_by links v) part right → SeesPartAt (Some p) (server_in xs w) (taken_by links w) part right
    one v w e part right sees =
        let same : v ≡ w = cc in subst (λ (u : Served). SeesPartAt (Some p) (server_in xs u) (taken_by links u) part right) same sees
