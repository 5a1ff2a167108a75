use Rattle.std.proofs.Common.{◌≡◌, ◌++◌, drop, string_bytes}
use Rattle.listing.specs.Listing.{listing, listing_from}
use Rattle.listing.proofs.listing_of.Given as goal

abbrev pub invariant-loop-register : goal.invariant-loop-register
invariant-loop-register l = string_bytes l.text ++ listing_from l.register (drop l.register l.told) ≡ listing l.told
