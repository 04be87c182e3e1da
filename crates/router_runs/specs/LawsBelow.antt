-- The laws of other crates that the promises of runs rest on.
use Rattle.bgp_codec.specs.declared.message.Message.{Message}
use Rattle.bgp_codec.specs.Header.{IsFrame, HeaderIsItsFront}
use Rattle.bgp_codec.specs.Spelling.{WrittenHasAHeader}
use Rattle.bgp_codec.specs.Faults.{PeersWritingIsRead}
use Rattle.run_model.specs.Links.{JoinedHeardItsOwn}
use Rattle.run_model.specs.Sessions.{SessionRunsGoOn, SessionsMakeALinkRun}
use Rattle.run_model.specs.Octets.{NextControlIsNextEntry, HeldBeginsNextMessage, DroppedOctetsAreMessages}
use Rattle.run_model.specs.Streams.{BeginningsPass, OctetsBeginWhatIsSaid, NothingSaidBehindShut, AllOctetsPass, UsedOctetsWereTaken, NoStaleOctetAtAnEnd, NoneDroppedAtAnEnd}
use Rattle.run_model.specs.Facts.{EndFactsHold, MovesKeepFacts, UpByFit, NotDialledIsNotShut, PastStaysPast, SessionEventsLeadOn, EntriesAddUp}
use Rattle.stable_paths.specs.Promises.{StableIsTheModels}
use Rattle.router_model.specs.Recording.{DraftsLeaveEstablished}
use Rattle.router_model.specs.Laws.{LinkedRoutersArePeers, StepsAppendWhatTheySay}

pub record LawsBelow : Type 0 where
  -- messages
  pub header : HeaderIsItsFront
  pub sizes : WrittenHasAHeader
  pub reads : PeersWritingIsRead
  -- ends of a link
  pub facts : EndFactsHold Message
  pub keeps : MovesKeepFacts Message
  pub not_shut : NotDialledIsNotShut Message
  pub stays_past : PastStaysPast Message
  pub entries : EntriesAddUp Message
  pub heard : JoinedHeardItsOwn Message
  -- sessions
  pub leads : SessionEventsLeadOn Message
  pub up : UpByFit Message
  pub on : SessionRunsGoOn Message
  pub run : SessionsMakeALinkRun Message
  -- octets
  pub held : HeldBeginsNextMessage Message IsFrame
  pub control : NextControlIsNextEntry Message IsFrame
  pub dropped : DroppedOctetsAreMessages Message
  pub no_stale : NoStaleOctetAtAnEnd Message IsFrame
  pub none_dropped : NoneDroppedAtAnEnd Message
  pub beginnings : BeginningsPass Message
  pub begins : OctetsBeginWhatIsSaid Message
  pub none_behind : NothingSaidBehindShut Message
  pub all : AllOctetsPass Message
  pub used : UsedOctetsWereTaken Message
  -- routers
  pub links : LinkedRoutersArePeers
  pub appends : StepsAppendWhatTheySay
  pub left : DraftsLeaveEstablished
  -- choices
  pub stable : StableIsTheModels Message
