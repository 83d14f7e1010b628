-- The store's record.
use Rattle.store.specs.declared.Extent.{Extent}
use Rattle.store.specs.declared.StoreRecord.{StoreRecord}

-- what of it is about pages
abbrev pub extent_of : StoreRecord → Extent
extent_of r = record { size = r.size; count = r.count }
