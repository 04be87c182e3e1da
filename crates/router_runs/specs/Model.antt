-- The network of the laws of runs that a network of routers stands for: its messages are those of BGP-4, and its
-- routers choose as the setting says.
-- g is a setting, o an OPEN, q a prefix.
use Rattle.std.specs.Prelude.{ℕ, List, [], ◌++◌, map}
use Rattle.prefix_lanes.specs.Bits.{PrefixView, is_prefix}
use Rattle.bgp_codec.specs.declared.message.Message.{Message}
use Rattle.bgp_codec.specs.declared.message.Message.TheVariants.{OpenMsg, UpdateMsg, NoticeMsg, AliveMsg}
use Rattle.rib_tables.specs.Words.{announced_word, path_in}
use Rattle.run_model.specs.Routes as model
use Rattle.router_model.specs.Messages.{is_update}
use Rattle.router_model.specs.Settings.{Setting, is_router, linked, names}

-- what a message says of prefixes; the empty path if it withdraws one
abbrev pub withdrawn_mentions : List PrefixView → List (PrefixView × List ℕ)
withdrawn_mentions qs = map (λ q. (q, [])) qs

abbrev pub announced_mentions : List ℕ → List PrefixView → List (PrefixView × List ℕ)
announced_mentions path qs = map (λ q. (q, path)) qs

-- withdrawals first, so that an announcement wins
abbrev pub mentions : Message → List (PrefixView × List ℕ)
mentions (OpenMsg o) = []
mentions (UpdateMsg update) =
    withdrawn_mentions update.withdrawn ++ announced_mentions (path_in (announced_word update.attrs)) update.nlri
mentions (NoticeMsg notice) = []
mentions AliveMsg = []

abbrev pub network_of : Setting → model.Network Message PrefixView (List ℕ)
network_of g = record {
  routers = is_router g;
  linked = linked g.net;
  named = names g.net.origins;
  same_prefix = λ other q. is_prefix q other;
  is_update = is_update;
  mentions = mentions;
  no_path = [];
  best = g.best;
}
