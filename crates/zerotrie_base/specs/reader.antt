-- Words of look-ups, over the grammar alone.
pub mod Reading
