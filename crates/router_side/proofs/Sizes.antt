-- How many octets the messages have that a router says of itself.
use Rattle.std.proofs.Common.{◌≡◌, ℕ, ◌+◌, ◌≤◌, length, arith}
use Rattle.bgp_values.specs.declared.width.Width.{Width}
use Rattle.bgp_codec.specs.declared.notice.Notice.{Notice}
use Rattle.bgp_codec.specs.declared.message.Message.TheVariants.{AliveMsg, NoticeMsg}
use Rattle.bgp_codec.specs.Spelling.{written, WrittenHasAHeader}
use Rattle.router_side.specs.declared.drafted.Say.{Say}
use Rattle.router_side.specs.declared.drafted.Say.TheVariants as say
use Rattle.router_model.specs.Sides.{notification}
use Rattle.router_side.specs.Sayings.{size_of}

pub alive_len : WrittenHasAHeader → (width : Width) → length (written width AliveMsg) ≡ 19
alive_len h width = omega (arith, h width AliveMsg)

pub notice_len : WrittenHasAHeader → (width : Width) (code : ℕ) → length (written width (notification code)) ≡ 21
notice_len h width code = omega (arith, h width (notification code))

pub told_len : WrittenHasAHeader → (width : Width) (n : Notice) → length (written width (NoticeMsg n)) ≡ 21 + length n.extra
told_len h width n = omega (arith, h width (NoticeMsg n))

pub one_size : (own told : ℕ) (x : Say) → own ≤ 4096 → told ≤ 4096 → size_of own told x ≤ 4096
one_size own told (say.Dial e) o t = omega arith
one_size own told (say.Shut e) o t = omega arith
one_size own told (say.Open e) o t = o
one_size own told (say.Alive e) o t = omega arith
one_size own told (say.Notice e code) o t = omega arith
one_size own told (say.Given e) o t = t
