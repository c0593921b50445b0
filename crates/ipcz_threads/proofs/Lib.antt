mod Asking
mod Settling
mod Turning
mod Wording
