pub mod NotedItems
pub mod NotedEntries
