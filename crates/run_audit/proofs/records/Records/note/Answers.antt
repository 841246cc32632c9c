-- What the proof of `records::Records::note` needs beside the tactics.
use Rattle.std.proofs.Common.{refl, subst}
use Rattle.run_data.specs.declared.entry.EntryKind.{EntryKind}
use Rattle.run_audit.specs.Changes.{HasPlaceFor}
use Rattle.run_audit.specs.declared.records.Records.{Records}
use Rattle.run_audit.proofs.Placing.{note_else, note_gain, note_gone}
use Rattle.run_audit.proofs.records.Records.note.Goals as goal

pub change-requires-clause-place : goal.change-requires-clause-place
change-requires-clause-place c = subst (λ (k : EntryKind). HasPlaceFor k c.args.self.now.kept.entries) c.in-Gain.is c.requires.place

pub change-requires-in-Gone-clause-place : goal.change-requires-in-Gone-clause-place
change-requires-in-Gone-clause-place c = subst (λ (k : EntryKind). HasPlaceFor k c.args.self.now.kept.entries) c.in-Gone.is c.requires.place

pub returns-in-Gain : goal.returns-in-Gain
returns-in-Gain c =
    let x = c.args.self.now in
    let y : Records = record x { kept = c.change.new.kept } in
    note_gain c.args.repo x y refl c.args.kind.now c.args.proof.now _ _ c.in-Gain.key c.in-Gain.is c.change.ensures.here c.change.ensures.others

pub returns-in-Gone : goal.returns-in-Gone
returns-in-Gone c =
    let x = c.args.self.now in
    let y : Records = record x { kept = c.change-in-Gone.new.kept } in
    note_gone c.args.repo x y refl c.args.kind.now c.args.proof.now _ c.in-Gone.key c.in-Gone.is c.change-in-Gone.ensures.here c.change-in-Gone.ensures.others

pub returns-in_default : goal.returns-in_default
returns-in_default c = note_else c.args.repo c.args.self.now c.args.kind.now c.args.proof.now c.in_default.not-Gain c.in_default.not-Gone
