-- The members that the code hands over: a set, and values in words.
use Rattle.std.specs.Prelude.{List}
use Rattle.request.specs.Set.{Member, tags_of, members_of}
use Rattle.request.specs.declared.members.Members.{Members}

unfoldable pub members_in : Members → List Member
members_in m = members_of (tags_of m.set.low m.set.high) m.values.now
