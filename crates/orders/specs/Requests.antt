-- Calls by what they are given. Assumes nothing.
use Rattle.std.specs.Prelude.{List as Seq, map}
use Rattle.orders.specs.declared.call.Call.{Call}
use Rattle.orders.specs.declared.call.Call.TheVariants.{Alias, Unalias, Load, Unload, List}
use Rattle.orders.specs.Book.{Request, alias, unalias, load, unload, list}

abbrev pub request_of : Call → Request
request_of (Alias n v) = alias n.now v.now
request_of (Unalias n) = unalias n.now
request_of (Load t) = load t.now
request_of Unload = unload
request_of (List s) = list s.now

abbrev pub requests : Seq Call → Seq Request
requests calls = map request_of calls
