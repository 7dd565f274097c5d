pub mod FlatTree
pub mod StatementView
pub mod FlatView
pub mod FlatScans
pub mod FlatRules
pub mod FlatLaws
