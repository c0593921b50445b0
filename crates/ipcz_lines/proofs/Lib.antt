pub mod Forms
pub mod Lacking
pub mod Numbers
pub mod Parting
