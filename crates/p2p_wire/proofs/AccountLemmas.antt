-- What a decoder gave, and what it did not, is what it was fed.
use Rattle.std.proofs.Common.{◌≡◌, ℕ, ◌+◌, ◌-◌, ◌≤◌, ◌^◌, List, [], ◌∷◌, ◌++◌, length, Option, Some, None, refl, sym, ap, ◌∙◌, subst, arith}
use Rattle.std.specs.Prelude.{min, flat_map}
use Rattle.std.proofs.lemmas.List.{append_assoc, length-append}
use Rattle.annex_base.specs.Lists.{Each}
use Rattle.p2p_wire.specs.declared.decoder.Why.{Why}
use Rattle.p2p_wire.specs.Streams.{Accounts, DecoderView, DecoderAnswer, Says, Gives, Waits, Refuses, DecoderEvent, Fed, Asked, IsToldLine, IsToldFault, start, next_answer, after, after_told, after_all, answers, after_giving, after_piece, after_piece_by, fed_bytes, bytes_given_in, unread_told, line_told, line_of, raw_after}
use Rattle.p2p_wire.proofs.StreamLemmas.{told_refuses, said_bytes, said_line, given_bytes}

abbrev given : List DecoderEvent → DecoderView → List ℕ
given events u = flat_map bytes_given_in (answers events u)

-- the same from where a decoder stands
record Tells (u : DecoderView) (events : List DecoderEvent) : Type 0 where
  ignored : List ℕ
  bytes : u.bytes ++ fed_bytes events ≡ given events u ++ ((after_all events u).bytes ++ ignored)
  kept : (after_all events u).fault ≡ None → ignored ≡ []
  place : (after_all events u).place ≡ min (u.place + length (given events u)) (2 ^ 64 - 1)
  lines : Each IsToldLine (answers events u)
  faults : Each (IsToldFault (after_all events u)) (answers events u)
  fault : (why : Why) → (after_all events u).fault ≡ Some why → line_told (after_all events u).place (after_all events u).bytes ≡ Refuses (after_all events u).place why

-- a decoder that met a fault
record Rests (u : DecoderView) (events : List DecoderEvent) : Type 0 where
  same : after_all events u ≡ u
  none : given events u ≡ []
  lines : Each IsToldLine (answers events u)
  faults : Each (IsToldFault u) (answers events u)

-- it answers the same for ever
rests : (events : List DecoderEvent) (u : DecoderView) (why : Why) → u.fault ≡ Some why → Rests u events
rests [] u why is = record { same = refl; none = refl; lines = tt; faults = tt }
rests (Fed piece ∷ events) u why is =
    let there : after_piece u piece ≡ u = ap (after_piece_by u piece) is in
    let r = rests events u why is in
    record {
      same = ap (after_all events) there ∙ r.same;
      none = ap (given events) there ∙ r.none;
      lines = subst (λ (v : DecoderView). Each IsToldLine (answers events v)) (sym there) r.lines;
      faults = subst (λ (v : DecoderView). Each (IsToldFault u) (answers events v)) (sym there) r.faults;
    }
rests (Asked ∷ events) u why is =
    let says : next_answer u ≡ Refuses u.place why = ap (unread_told u) is in
    let there : after u ≡ u = ap (after_told u) says ∙ ap (λ (f : Option Why). record { place = u.place; left = u.left; bytes = u.bytes; fault = f }) (sym is) in
    let r = rests events u why is in
    record {
      same = ap (after_all events) there ∙ r.same;
      none = ap (λ t. bytes_given_in t ++ given events (after u)) says ∙ ap (given events) there ∙ r.none;
      lines = (subst IsToldLine (sym says) tt, subst (λ (v : DecoderView). Each IsToldLine (answers events v)) (sym there) r.lines);
      faults = (subst (IsToldFault u) (sym says) (is, refl), subst (λ (v : DecoderView). Each (IsToldFault u) (answers events v)) (sym there) r.faults);
    }

-- a fault of a decoder is that of the line with which its bytes begin, and no place is past the greatest
record Holds (u : DecoderView) : Type 0 where
  place : u.place ≤ 2 ^ 64 - 1
  fault : (why : Why) → u.fault ≡ Some why → line_told u.place u.bytes ≡ Refuses u.place why

at_fault : (events : List DecoderEvent) (u : DecoderView) (why : Why) → Holds u → u.fault ≡ Some why → Tells u events
at_fault events u why h is =
    let r = rests events u why is in
    record {
      ignored = fed_bytes events;
      bytes = ap (λ (xs : List ℕ). xs ++ (u.bytes ++ fed_bytes events)) (sym r.none) ∙ ap (λ (v : DecoderView). given events u ++ (v.bytes ++ fed_bytes events)) (sym r.same);
      kept = λ none. absurd (let other : Some why ≡ None = sym is ∙ ap (λ (v : DecoderView). v.fault) (sym r.same) ∙ none in cc);
      place = ap (λ (v : DecoderView). v.place) r.same ∙ (let few : length (given events u) ≡ 0 = ap length r.none in rw few (let low = h.place in omega (arith, low)));
      lines = r.lines;
      faults = subst (λ (v : DecoderView). Each (IsToldFault v) (answers events u)) (sym r.same) r.faults;
      fault = subst (λ (v : DecoderView). (w : Why) → v.fault ≡ Some w → line_told v.place v.bytes ≡ Refuses v.place w) (sym r.same) h.fault;
    }

-- one answer: what it gives stood before what is left, and the place counts it
record Steps (u : DecoderView) : Type 0 where
  bytes : bytes_given_in (next_answer u) ++ (after u).bytes ≡ u.bytes
  place : (after u).place ≡ min (u.place + length (bytes_given_in (next_answer u))) (2 ^ 64 - 1)
  holds : Holds (after u)
  line : IsToldLine (next_answer u)
  fault : (at : ℕ) (why : Why) → next_answer u ≡ Refuses at why → ((after u).fault ≡ Some why) × ((after u).place ≡ at)

step : (u : DecoderView) → Holds u → u.fault ≡ None → Steps u
step u h sound = go (next_answer u) refl
  where
    go : (t : DecoderAnswer) → next_answer u ≡ t → Steps u
    go (Says m) is =
        let there : after u ≡ after_giving u (length (line_of m)) (raw_after m) = ap (after_told u) is in
        record {
          bytes = ap (λ (t : DecoderAnswer). bytes_given_in t ++ (after_told u t).bytes) is ∙ said_bytes u m is;
          place = ap (λ (t : DecoderAnswer). (after_told u t).place) is ∙ ap (λ (t : DecoderAnswer). min (u.place + length (bytes_given_in t)) (2 ^ 64 - 1)) (sym is);
          holds = subst Holds (sym there) (record { place = omega arith; fault = λ why bad. absurd (let other : Some why ≡ None = sym bad ∙ sound in cc) });
          line = subst IsToldLine (sym is) (said_line u m is);
          fault = λ at why other. absurd (let no' : Says m ≡ Refuses at why = sym is ∙ other in cc);
        }
    go (Gives raw) is =
        let there : after u ≡ after_giving u (length raw) (u.left - length raw) = ap (after_told u) is in
        record {
          bytes = ap (λ (t : DecoderAnswer). bytes_given_in t ++ (after_told u t).bytes) is ∙ given_bytes u raw is;
          place = ap (λ (t : DecoderAnswer). (after_told u t).place) is ∙ ap (λ (t : DecoderAnswer). min (u.place + length (bytes_given_in t)) (2 ^ 64 - 1)) (sym is);
          holds = subst Holds (sym there) (record { place = omega arith; fault = λ why bad. absurd (let other : Some why ≡ None = sym bad ∙ sound in cc) });
          line = subst IsToldLine (sym is) tt;
          fault = λ at why other. absurd (let no' : Gives raw ≡ Refuses at why = sym is ∙ other in cc);
        }
    go Waits is =
        let there : after u ≡ u = ap (after_told u) is in
        record {
          bytes = ap (λ (t : DecoderAnswer). bytes_given_in t ++ (after_told u t).bytes) is;
          place = ap (λ (v : DecoderView). v.place) there ∙ (let none : length (bytes_given_in (next_answer u)) ≡ 0 = ap (λ (t : DecoderAnswer). length (bytes_given_in t)) is in let low = h.place in omega (arith, none, low));
          holds = subst Holds (sym there) h;
          line = subst IsToldLine (sym is) tt;
          fault = λ at why other. absurd (let no' : Waits ≡ Refuses at why = sym is ∙ other in cc);
        }
    go (Refuses at why) is =
        let bad = told_refuses u at why sound is in
        let there : after u ≡ record { place = u.place; left = u.left; bytes = u.bytes; fault = Some why } = ap (after_told u) is in
        record {
          bytes = ap (λ (t : DecoderAnswer). bytes_given_in t ++ (after_told u t).bytes) is;
          place = ap (λ (v : DecoderView). v.place) there ∙ (let none : length (bytes_given_in (next_answer u)) ≡ 0 = ap (λ (t : DecoderAnswer). length (bytes_given_in t)) is in let low = h.place in omega (arith, none, low));
          holds = subst Holds (sym there) (record { place = h.place; fault = λ w same. bad.1 ∙ ap (Refuses u.place) (let e : Some why ≡ Some w = same in cc) });
          line = subst IsToldLine (sym is) tt;
          fault = λ a w other. let e : Refuses at why ≡ Refuses a w = sym is ∙ other in (ap (λ (v : DecoderView). v.fault) there ∙ ap Some (let f : why ≡ w = cc in f), ap (λ (v : DecoderView). v.place) there ∙ sym bad.0 ∙ (let f : at ≡ a = cc in f));
        }

-- where an answer is a refusal, the decoder rests at it
told_fault : (u : DecoderView) (events : List DecoderEvent) (a : DecoderAnswer) → next_answer u ≡ a → Steps u → IsToldFault (after_all events (after u)) a
told_fault u events (Says m) is s = tt
told_fault u events (Gives raw) is s = tt
told_fault u events Waits is s = tt
told_fault u events (Refuses at why) is s =
    let here = s.fault at why is in
    let r = rests events (after u) why here.0 in
    (ap (λ (v : DecoderView). v.fault) r.same ∙ here.0, ap (λ (v : DecoderView). v.place) r.same ∙ here.1)

tells : (events : List DecoderEvent) (u : DecoderView) → Holds u → Tells u events
tells [] u h = record { ignored = []; bytes = refl; kept = λ _. refl; place = let low = h.place in omega (arith, low); lines = tt; faults = tt; fault = h.fault }
tells (Fed piece ∷ events) u h = go (λ v k. tells events v k) u.fault refl
  where
    go : ((v : DecoderView) → Holds v → Tells v events) → (f : Option Why) → u.fault ≡ f → Tells u (Fed piece ∷ events)
    go more (Some why) is = at_fault (Fed piece ∷ events) u why h is
    go more None is =
        let there : after_piece u piece ≡ after_piece_by u piece None = ap (after_piece_by u piece) is in
        let now : Holds (after_piece u piece) = subst Holds (sym there) (record { place = h.place; fault = λ why bad. absurd cc }) in
        let t = more (after_piece u piece) now in
        record {
          ignored = t.ignored;
          bytes = sym (append_assoc u.bytes piece (fed_bytes events)) ∙ ap (λ (v : DecoderView). v.bytes ++ fed_bytes events) (sym there) ∙ t.bytes;
          kept = t.kept;
          place = t.place ∙ ap (λ (v : DecoderView). min (v.place + length (given events (after_piece u piece))) (2 ^ 64 - 1)) there;
          lines = t.lines;
          faults = t.faults;
          fault = t.fault;
        }
tells (Asked ∷ events) u h = go (λ v k. tells events v k) u.fault refl
  where
    go : ((v : DecoderView) → Holds v → Tells v events) → (f : Option Why) → u.fault ≡ f → Tells u (Asked ∷ events)
    go more (Some why) is = at_fault (Asked ∷ events) u why h is
    go more None is =
        let s = step u h is in
        let t = more (after u) s.holds in
        let both : length (bytes_given_in (next_answer u) ++ given events (after u)) ≡ length (bytes_given_in (next_answer u)) + length (given events (after u)) = length-append (bytes_given_in (next_answer u)) (given events (after u)) in
        record {
          ignored = t.ignored;
          bytes = ap (λ (xs : List ℕ). xs ++ fed_bytes events) (sym s.bytes) ∙ append_assoc (bytes_given_in (next_answer u)) (after u).bytes (fed_bytes events)
              ∙ ap (λ (xs : List ℕ). bytes_given_in (next_answer u) ++ xs) t.bytes ∙ sym (append_assoc (bytes_given_in (next_answer u)) (given events (after u)) ((after_all events (after u)).bytes ++ t.ignored));
          kept = t.kept;
          place = let p = t.place in let q = s.place in rw both (omega (arith, p, q));
          lines = (s.line, t.lines);
          faults = (told_fault u events (next_answer u) refl s, t.faults);
          fault = t.fault;
        }

-- **what was fed is what was given and what was not**
pub accounts : (events : List DecoderEvent) → Accounts events
accounts events =
    let t = tells events start (record { place = omega arith; fault = λ why bad. absurd (let e : None ≡ Some why = bad in cc) }) in
    record { ignored = t.ignored; bytes = t.bytes; kept = t.kept; place = t.place ∙ ap (λ n. min n (2 ^ 64 - 1)) (let e : 0 + length (given events start) ≡ length (given events start) = omega arith in e); lines = t.lines; faults = t.faults; fault = t.fault }
