-- The maps that indexes represent, by the values that are put into them.
pub use Rattle.index_format.specs.Listing.{with_values, map_of}
