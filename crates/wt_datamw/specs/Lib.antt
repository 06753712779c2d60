pub mod JsonText
pub mod Mw
pub mod MwPieces
pub mod MwRead
pub mod MwValues
pub mod Sync
pub mod SyncPieces
pub mod SyncRead
