-- Each parcel is sent as its frames.
use Rattle.std.proofs.Common.{ap}
use Rattle.p2p_wire.specs.Messages.{text_of}
use Rattle.run_data.specs.declared.entry.FrameText.TheVariants as texts
use Rattle.drop_phases.specs.Working.{texts_of}
use Rattle.node_parts.proofs.Posting.{last_well, parcel_well}
use Rattle.node_parts.proofs.drop_frames.post_parcel.Goals as goal

pub returns-in-Open-clause-well : goal.returns-in-Open-clause-well
returns-in-Open-clause-well c = λ was taken before quiet.
    parcel_well was taken c.args.slot c.args.parcel.peer c.args.sent.now.items c.post.new.sent.items (texts_of c.args.parcel.body) texts.Opening (ap texts_of c.in-Open.is) (λ f of place. c.post.ensures.well was taken f before quiet of place)

pub returns-in-Close-clause-well : goal.returns-in-Close-clause-well
returns-in-Close-clause-well c = λ was taken before quiet.
    parcel_well was taken c.args.slot c.args.parcel.peer c.args.sent.now.items c.post-in-Close.new.sent.items (texts_of c.args.parcel.body) texts.Closing (ap texts_of c.in-Close.is) (λ f of place. c.post-in-Close.ensures.well was taken f before quiet of place)

pub returns-in-Message-clause-well : goal.returns-in-Message-clause-well
returns-in-Message-clause-well c = λ was taken before quiet.
    parcel_well was taken c.args.slot c.args.parcel.peer c.args.sent.now.items c.post_said.new.sent.items (texts_of c.args.parcel.body) (texts.Line (text_of c.in-Message.said)) (ap texts_of c.in-Message.is)
    (λ f of place. c.post_said.ensures.well was taken f before quiet of place)

pub returns-in-Last-clause-well : goal.returns-in-Last-clause-well
returns-in-Last-clause-well c = λ was taken before quiet.
    last_well was taken c.args.slot c.args.parcel.peer c.args.sent.now.items c.post_last.new.sent.items (texts_of c.args.parcel.body) (texts.Line (text_of c.in-Last.said)) texts.Closing (ap texts_of c.in-Last.is)
    (λ f g of_f of_g all. c.post_last.ensures.well was taken f g before quiet of_f of_g all)
