-- What holds for every listing.
use Rattle.std.specs.Prelude.{◌<◌, length, IfSome}
use Rattle.std.specs.List.{AllByRecursion}
use Rattle.smap_mappings.specs.declared.token.Token.{Token}
use Rattle.smap_mappings.specs.declared.token.Original.{Original}
use Rattle.smap_mappings.specs.Position.{POSITIONS}
use Rattle.smap_mappings.specs.Text.{IsEncodable}
use Rattle.smap_record.specs.Record.{Listing}

-- Its source and its name are listed.
pub record IsListedOriginal (l : Listing) (o : Original) : Type 0 where
  pub source : o.source < length l.sources
  pub name : IfSome o.name (λ n. n < length l.names)

-- It has no original, or its source and its name are listed.
abbrev pub IsListedToken : Listing → Token → Type 0
IsListedToken l t = IfSome t.original (IsListedOriginal l)

-- At most 2,147,483,647 sources and as many names; sorted tokens that have a mappings string, with indices
-- into these lists.
pub record IsListing (l : Listing) : Type 0 where
  pub sources : length l.sources < POSITIONS
  pub names : length l.names < POSITIONS
  pub encodable : IsEncodable l.tokens
  pub listed : AllByRecursion (IsListedToken l) l.tokens
