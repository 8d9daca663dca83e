use Rattle.feeds.proofs.Granting.{frame_granted, first_offence_named}
use Rattle.feeds.proofs.Codes.{record_codes, other_codes}
use Rattle.feeds.proofs.frame_feeds.frames_bring_their_records.Goals as goal

pub returns : goal.returns
returns c = record { granted = frame_granted; offence = first_offence_named; listed = record_codes; others = other_codes }
