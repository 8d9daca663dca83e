pub mod Models
pub mod Forms
pub mod Files
pub mod FileLaws
pub mod LiftFiles
pub mod ListedFiles
