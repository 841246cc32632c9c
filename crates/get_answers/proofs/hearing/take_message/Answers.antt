-- By where it stands.
use Rattle.transfer_turns.specs.Steps.{seen}
use Rattle.get_answers.proofs.Losses.{asking_there, busy_does, fills_there, greeting_there, opening_there, served_there}
use Rattle.get_answers.proofs.hearing.take_message.Goals as goal

pub take_opened-requires : goal.take_opened-requires
take_opened-requires g c = record { opens = opening_there c.args.getting.now c.args.peer _ _ c.in-Opens.is c.requires.awaits }

pub take_version-requires : goal.take_version-requires
take_version-requires g c = record { greets = greeting_there c.args.getting.now c.args.peer _ _ c.in-Greets.is c.requires.awaits }

pub take_data-requires : goal.take_data-requires
take_data-requires g c = record { asks = asking_there c.args.getting.now c.args.peer _ _ c.in-Data.is c.requires.awaits }

pub shut-requires : goal.shut-requires
shut-requires g c = record { fills = fills_there c.args.getting.now c.args.peer c.requires.awaits }

pub take_word-requires : goal.take_word-requires
take_word-requires g c = record { served = served_there c.args.getting.now c.args.peer _ _ _ c.in-Word.is c.requires.awaits; has = c.requires.has }

pub returns-in-Opens : goal.returns-in-Opens
returns-in-Opens g c = record {
  does = λ x. c.take_opened.ensures.does x c.args.table.now (seen (g.K.Keeper.contents c.args.keeper.now) (g.K.Keeper.parts c.args.keeper.now) (g.K.Keeper.records c.args.keeper.now) (g.K.Keeper.files c.args.keeper.now) (g.K.Keeper.faults c.args.keeper.now) (g.K.Keeper.failing c.args.keeper.now)) c.requires.has;
}

pub returns-in-Greets : goal.returns-in-Greets
returns-in-Greets g c = record {
  does = λ x. c.take_version.ensures.does x c.args.table.now c.requires.has;
}

pub returns-in-Data : goal.returns-in-Data
returns-in-Data g c = record {
  does = λ x. c.take_data.ensures.does x c.args.table.now (seen (g.K.Keeper.contents c.args.keeper.now) (g.K.Keeper.parts c.args.keeper.now) (g.K.Keeper.records c.args.keeper.now) (g.K.Keeper.files c.args.keeper.now) (g.K.Keeper.faults c.args.keeper.now) (g.K.Keeper.failing c.args.keeper.now)) c.requires.has;
}

pub returns-in-Bytes : goal.returns-in-Bytes
returns-in-Bytes g c = record {
  does = λ x.
      busy_does x c.args.table.now (seen (g.K.Keeper.contents c.args.keeper.now) (g.K.Keeper.parts c.args.keeper.now) (g.K.Keeper.records c.args.keeper.now) (g.K.Keeper.files c.args.keeper.now) (g.K.Keeper.faults c.args.keeper.now) (g.K.Keeper.failing c.args.keeper.now)) c.args.getting.now c.shut.new.getting c.args.peer c.shut.result c.args.message.now _ _ _ c.requires.has c.shut.ensures.err c.in-Bytes.is c.requires.awaits c.shut.ensures.ok;
}
