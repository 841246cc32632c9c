-- A timestamp that a session says is its clock.
use Rattle.std.proofs.Common.{◌≡◌, ℕ, ◌/◌, ◌<◌, ◌^◌, List, [], ◌∷◌, Option, Some, None, inl, inr, refl, sym, ap, ◌∙◌, subst}
use Rattle.annex_base.specs.Lists.{Each}
use Rattle.annex_base.specs.declared.kinds.Found.{Found}
use Rattle.annex_base.specs.declared.kinds.Found.TheVariants as found
use Rattle.step_facts.proofs.Below.{SentAreRead}
use Rattle.run_data.specs.declared.entry.EntryKind.{EntryKind}
use Rattle.run_data.specs.declared.entry.EntryKind.TheVariants.{Gain, Share, Release, Check, Gone, Talk, Close, Fault}
use Rattle.run_data.specs.declared.entry.FrameText.{FrameText}
use Rattle.run_data.specs.declared.entry.FrameText.TheVariants.{Closing, Bytes, Line}
use Rattle.p2p_wire.specs.declared.message.Message.{Message}
use Rattle.p2p_wire.specs.declared.message.Message.TheVariants.{AuthSuccess, Version, Timestamp, PutFrom, AlreadyHave, Data, Valid, Invalid, Success, Failure, Error}
use Rattle.p2p_wire.specs.Messages.{message_of, text_of}
use Rattle.run_model.specs.Said.{Says, message_in}
use Rattle.node_model.specs.Sessions.{Doing}
use Rattle.node_model.specs.SessionStep.{Here, now_of, failure_line}
use Rattle.node_model.specs.Found.{AnswersAbsent, CheckFinds, IsTalk, SaysClose, SaysFault, SaysTalk, IsSessionEntry, success_line}
use Rattle.run_laws.proofs.SaidDown.{alike, error_alike, said_bytes, said_closing}
use Rattle.run_laws.proofs.SessionSays.{read_of}

-- what is read as a timestamp is the clock's
abbrev pub IsTime : ℕ → FrameText → Type 0
IsTime clock b = (n : ℕ) → message_in b ≡ Says (Timestamp n) → n ≡ clock / 1000

time_back : SentAreRead → (k n : ℕ) → k < 2 ^ 63 → message_of (text_of (Timestamp k)) ≡ Some (Timestamp n) → n ≡ k
time_back reads_back k n small e = let both : Some (Timestamp k) ≡ Some (Timestamp n) = sym (reads_back (Timestamp k) small tt) ∙ e in cc

talk_time : SentAreRead → (clock : ℕ) (m : Message) → clock / 1000 < 2 ^ 63 → IsTalk clock m → (n : ℕ) → message_of (text_of m) ≡ Some (Timestamp n) → n ≡ clock / 1000
talk_time reads_back clock (Timestamp k) small t n e = time_back reads_back k n (subst (λ x. x < 2 ^ 63) (sym t) small) e ∙ t
talk_time reads_back clock (AuthSuccess id) small t n e = absurd (alike (AuthSuccess id) refl (Timestamp n) e)
talk_time reads_back clock (Version k) small t n e = absurd (alike (Version k) refl (Timestamp n) e)
talk_time reads_back clock (PutFrom k) small t n e = absurd (alike (PutFrom k) refl (Timestamp n) e)
talk_time reads_back clock AlreadyHave small t n e = absurd (alike AlreadyHave refl (Timestamp n) e)
talk_time reads_back clock (Data k) small t n e = absurd (alike (Data k) refl (Timestamp n) e)
talk_time reads_back clock Valid small t n e = absurd (alike Valid refl (Timestamp n) e)
talk_time reads_back clock Invalid small t n e = absurd (alike Invalid refl (Timestamp n) e)
talk_time reads_back clock Failure small t n e = absurd (alike Failure refl (Timestamp n) e)
talk_time reads_back clock (Error text) small t n e = absurd (error_alike text (Timestamp n) e)
talk_time reads_back clock m small t n e = absurd t

closing_time : (clock : ℕ) → IsTime clock Closing
closing_time clock n e = absurd (let no' = sym said_closing ∙ e in cc)

bytes_time : (clock k : ℕ) → IsTime clock (Bytes k)
bytes_time clock k n e = absurd (let no' = sym (said_bytes k) ∙ e in cc)

failure_time : (clock : ℕ) → IsTime clock (Line (text_of Failure))
failure_time clock n e = absurd (alike Failure refl (Timestamp n) (read_of (text_of Failure) (Timestamp n) e))

success_time : (clock : ℕ) → IsTime clock (Line (text_of Success))
success_time clock n e = absurd (alike Success refl (Timestamp n) (read_of (text_of Success) (Timestamp n) e))

error_time : (clock : ℕ) (t : List ℕ) → IsTime clock (Line (text_of (Error t)))
error_time clock t n e = absurd (error_alike t (Timestamp n) (read_of (text_of (Error t)) (Timestamp n) e))

abbrev Times : ℕ → List FrameText → Type 0
Times clock says = Each (IsTime clock) says

says_talk : SentAreRead → (clock : ℕ) (says : List FrameText) → clock / 1000 < 2 ^ 63 → SaysTalk clock says → Times clock says
says_talk reads_back clock [] small t = tt
says_talk reads_back clock (Bytes k ∷ []) small t = (bytes_time clock k, tt)
says_talk reads_back clock (Line text ∷ []) small t = ((λ n e. talk_time reads_back clock t.0 small t.2 n (ap message_of (sym t.1) ∙ read_of text (Timestamp n) e)), tt)
says_talk reads_back clock says small t = absurd t

says_close : (clock : ℕ) (says : List FrameText) → SaysClose says → Times clock says
says_close clock [] t = tt
says_close clock (Closing ∷ []) t = (closing_time clock, tt)
says_close clock (Line text ∷ Closing ∷ []) t = (subst (λ x. IsTime clock (Line x)) (sym t.1) (error_time clock t.0), (closing_time clock, tt))
says_close clock says t = absurd t

at_refuses : (clock : ℕ) (says : List FrameText) → says ≡ failure_line → Times clock says
at_refuses clock says i = subst (Times clock) (sym i) (failure_time clock, tt)

at_agrees : (clock : ℕ) (says : List FrameText) → says ≡ success_line → Times clock says
at_agrees clock says i = subst (Times clock) (sym i) (success_time clock, tt)

says_fault : (clock : ℕ) (says : List FrameText) → SaysFault says → Times clock says
says_fault clock says (inl i) = subst (Times clock) (sym i) tt
says_fault clock says (inr (inl i)) = subst (Times clock) (sym i) (closing_time clock, tt)
says_fault clock says (inr (inr i)) = at_refuses clock says i

absent_time : (clock : ℕ) (asked : Option Message) (key : List ℕ) (says : List FrameText) → AnswersAbsent asked key says → Times clock says
absent_time clock asked key says (inl i) = at_refuses clock says i
absent_time clock asked key says (inr i) = at_agrees clock says i.0

checked_time : (clock : ℕ) (h : Here) (doing : Doing) (asked : Option Message) (key : List ℕ) (says : List FrameText) (what : Found) → CheckFinds h doing asked key says what → Times clock says
checked_time clock h doing asked key says found.Present x = at_agrees clock says x.says_is
checked_time clock h doing asked key says found.Absent x = absent_time clock asked key says x.3
checked_time clock h doing asked key says found.Barred x = at_refuses clock says x.3
checked_time clock h doing asked key says found.Held x = at_refuses clock says x.3
checked_time clock h doing asked key says found.Late x = at_refuses clock says x.2
checked_time clock h doing asked key says found.Nolock x = at_refuses clock says x.3

pub kind_time : SentAreRead → (h : Here) (doing : Doing) (asked : Option Message) (says : List FrameText) (kind : EntryKind) → now_of h / 1000 < 2 ^ 63 → IsSessionEntry h doing asked says kind → Each (IsTime (now_of h)) says
kind_time reads_back h doing asked says (Share hold end by key) small x = at_agrees (now_of h) says x.says_is
kind_time reads_back h doing asked says (Check what key) small x = checked_time (now_of h) h doing asked key says what x
kind_time reads_back h doing asked says (Gone by key) small x = at_agrees (now_of h) says x.says_is
kind_time reads_back h doing asked says (Release hold key) small x = subst (Times (now_of h)) (sym x.says_is) tt
kind_time reads_back h doing asked says (Gain by size key) small x = at_agrees (now_of h) says x.says_is
kind_time reads_back h doing asked says (Talk None) small x = says_talk reads_back (now_of h) says small x
kind_time reads_back h doing asked says (Close peer slot client) small x = says_close (now_of h) says x.1
kind_time reads_back h doing asked says (Fault call by) small x = says_fault (now_of h) says x.1
kind_time reads_back h doing asked says kind small x = absurd x
